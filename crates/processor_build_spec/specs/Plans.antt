-- Building, as its parts do it: the list is judged, the records are laid, the processor is finished.
use Rattle.std.specs.Prelude.{ℕ, zero, suc, ◌%◌, min, Bool, ◌&&◌, cond, List, [], map, leb, length, get_or, set, replicate, Option, None, Some, Result, Ok, Err}
use Rattle.base.specs.declared.refusal.Refusal.{Refusal}
use Rattle.base.specs.declared.refusal.Refusal.TheVariants.{UnusableTypeText, FilesBeyondRoom, UnusableDatalog}
use Rattle.base.specs.Put.{put}
use Rattle.element_text.specs.Text.{fitted}
use Rattle.processor_spec.specs.declared.Built.{Built}
use Rattle.processor_spec.specs.declared.FileRecord.{FileRecord}
use Rattle.processor_spec.specs.declared.Slc.{Slc}
use Rattle.processor_spec.specs.Build.{wanted_of, or_defaults, file_refusal, records_of, Plan, planned, fits, log_fits, or_then, build_refusal, no_slc}
use Rattle.processor_spec.specs.State.{total, good_text}
use Rattle.processor_build_spec.specs.declared.Sums.{Sums}

-- the question that was answered with no; or how many records there are, and how many bytes the files have
abbrev pub judged : Option Refusal → List FileRecord → Result Sums Refusal
judged (Some e) rs = Err e
judged None rs = Ok (record { records = length rs; total = total rs })

unfoldable pub judged_of : Plan → ℕ → ℕ → Result Sums Refusal
judged_of p table_length memory_length = judged (build_refusal p table_length memory_length) (planned p)

-- 14 of so many records and bytes: "Is the data total at most 65,535 bytes, and do table and data memory hold everything?"
unfoldable pub room_for : ℕ → ℕ → ℕ → ℕ → Bool
room_for records bytes table_length memory_length = leb bytes 65535 && leb records table_length && leb bytes memory_length

-- a list of files as it stands, without the default files
unfoldable pub list_judged : List (List ℕ) → List ℕ → List ℕ → ℕ → ℕ → ℕ → Result Sums Refusal
list_judged files text log count table_length memory_length =
    judged
    (or_then (file_refusal [] (map wanted_of files))
    (cond (good_text text)
    (cond (fits (records_of (map wanted_of files)) table_length memory_length)
    (cond (log_fits count log) None (Some UnusableDatalog))
    (Some FilesBeyondRoom))
    (Some UnusableTypeText)))
    (records_of (map wanted_of files))

-- where there is no record
abbrev pub no_record : FileRecord
no_record = record { number = 0; code = 0; start = 0; length = 0 }

-- a record as its fields hold it: of a plan that isn't refused, the record itself
unfoldable pub narrowed : FileRecord → FileRecord
narrowed r = record { number = r.number % 65536; code = r.code % 256; start = r.start % 65536; length = r.length % 65536 }

-- the i-th record of a list of files
unfoldable pub record_of : List (List ℕ) → ℕ → FileRecord
record_of files i = narrowed (get_or (records_of (or_defaults (map wanted_of files))) i no_record)

-- the first so many records in the place of those that stood there
unfoldable pub stored : List (List ℕ) → ℕ → List FileRecord → List FileRecord
stored files zero old = old
stored files (suc k) old = set (stored files k old) k (record_of files k)

unfoldable pub laid_of : List (List ℕ) → ℕ → List FileRecord → List FileRecord
laid_of files count old = stored files (min count (length old)) old

-- the records of a list that isn't refused; a refusal lays none
unfoldable pub laid_by : List (List ℕ) → Result Sums Refusal → List FileRecord → List FileRecord
laid_by files (Err e) old = old
laid_by files (Ok s) old = laid_of files s.records old

-- what the last part gives, and the data memory as it leaves it
pub record Ended : Type 0 where
  pub built : Built
  pub memory : List ℕ

abbrev pub ended : Built → List ℕ → Ended
ended b m = record { built = b; memory = m }

-- the processor that is built
unfoldable pub slc_with : ℕ → List ℕ → ℕ → Slc
slc_with files text count = record { files = files; type_text = fitted 11 0 text; type_len = length text; log_at = 0; log_left = count }

-- a refusal changes nothing; else the files' bytes are zero
unfoldable pub finish_of : Result Sums Refusal → List ℕ → ℕ → List ℕ → Ended
finish_of (Err e) text count memory = ended (record { slc = no_slc; made = Err e }) memory
finish_of (Ok s) text count memory =
    ended (record { slc = slc_with s.records text count; made = Ok tt }) (put memory 0 (replicate (min s.total (length memory)) 0))
