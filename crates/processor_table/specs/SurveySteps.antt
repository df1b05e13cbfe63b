-- The survey record by record. What it all gives is in `Survey.antt`; here is what each step gives.
use Rattle.std.specs.Prelude.{ℕ, ◌+◌, ◌%◌, Bool, true, ◌&&◌, cond, List, [], ◌∷◌, leb, ltb, eqb, Option, None, Some}
use Rattle.file_type.specs.Table.{element_size}
use Rattle.processor_spec.specs.declared.FileRecord.{FileRecord}
use Rattle.processor_spec.specs.State.{known_code}
use Rattle.processor_table.specs.declared.Pass.{Pass}
use Rattle.processor_table.specs.declared.Seen.{Seen}
use Rattle.processor_table.specs.Survey.{lost_of}

-- a step for each record in turn
unfoldable pub folded : {S : Type 0} → (S → FileRecord → S) → List FileRecord → S → S
folded step [] s = s
folded step (r ∷ rs) s = folded step rs (step s r)

-- "a known code and a length that is a multiple of the element size"
unfoldable pub whole_of : ℕ → ℕ → Bool
whole_of code length = known_code code && eqb (length % element_size code) 0

-- the record may follow those with numbers below `next`, which end at `at`
unfoldable pub follows_of : ℕ → ℕ → FileRecord → Bool
follows_of next at r = leb next r.number && leb r.number 255 && eqb r.start at && whole_of r.code r.length

-- what was seen, with the record found: no record where its code is 0
abbrev pub pass : ℕ → ℕ → ℕ → FileRecord → Pass
pass next at number r = record { next = next; total = at; number = number; code = r.code; start = r.start; length = r.length }

abbrev pub found_by : Pass → FileRecord
found_by s = record { number = s.number; code = s.code; start = s.start; length = s.length }

abbrev pub found_in : Pass → Option FileRecord
found_in s = cond (eqb s.code 0) None (Some (found_by s))

-- no record was found
abbrev pub no_record : FileRecord
no_record = record { number = 0; code = 0; start = 0; length = 0 }

-- the least number that the first of n records may have, in a table that holds so many: 65,535, which none has, where n is 0 or above these
unfoldable pub first_number : ℕ → ℕ → ℕ
first_number n held = cond (ltb 0 n && leb n held) 0 65535

-- before the first of them
unfoldable pub begun_of : ℕ → ℕ → ℕ → Pass
begun_of n held number = pass (first_number n held) 0 number no_record

-- with one record more
unfoldable pub passed_of : Pass → FileRecord → Pass
passed_of s r =
    cond (follows_of s.next s.total r)
    (pass (r.number + 1) (s.total + r.length) s.number (cond (eqb r.number s.number) r (found_by s)))
    (pass 65535 s.total s.number (found_by s))

abbrev pub seen : ℕ → ℕ → ℕ → Option FileRecord → Seen
seen next at number found = record { sound = true; next = next; total = at; number = number; found = found }

-- with all of them
unfoldable pub concluded_of : Pass → Seen
concluded_of s = cond (leb s.next 256 && leb s.total 65535) (seen s.next s.total s.number (found_in s)) (lost_of s.number)
