-- What one pass over the file records tells.
use Rattle.std.specs.Prelude.{ℕ, suc, true, false, ◌&&◌, cond, List, leb, length, take, None}
use Rattle.processor_spec.specs.declared.FileRecord.{FileRecord}
use Rattle.processor_spec.specs.Directory.{last_number}
use Rattle.processor_spec.specs.Files.{find}
use Rattle.processor_spec.specs.State.{total, good_table}
use Rattle.processor_table.specs.declared.Seen.{Seen}

-- what sound records tell, with the record of a number that is sought
unfoldable pub told_of : ℕ → List FileRecord → Seen
told_of number rs = record { sound = true; next = suc (last_number 0 rs); total = total rs; number = number; found = find number rs }

-- what unsound records tell: nothing
unfoldable pub lost_of : ℕ → Seen
lost_of number = record { sound = false; next = 0; total = 0; number = number; found = None }

-- the first n records of a table. One that has fewer isn't sound, though those that it has may be.
unfoldable pub survey_of : List FileRecord → ℕ → ℕ → Seen
survey_of table n number = cond (leb n (length table) && good_table (take n table)) (told_of number (take n table)) (lost_of number)
