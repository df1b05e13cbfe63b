-- When a state is sound (question 16), by what the survey of the file table tells.
use Rattle.std.specs.Prelude.{ℕ, Bool, ◌&&◌, List, leb, take, drop}
use Rattle.processor_spec.specs.declared.Slc.{Slc}
use Rattle.processor_spec.specs.Plain.{entries, holds}
use Rattle.processor_spec.specs.State.{good_text, good_log}
use Rattle.processor_table.specs.declared.Seen.{Seen}

-- the datalog's memory holds the entries that are left; "Has the datalog at most 64 entries of at most 255 bytes?" (question 15)
unfoldable pub good_log_by : Slc → List ℕ → Bool
good_log_by slc log = holds slc.log_left (drop slc.log_at log) && good_log (entries slc.log_left (drop slc.log_at log))

-- State.sound, by the survey, the length of the data memory and the plain data: "A state is sound when it has a file record; .. lie end to end
-- from data byte 0", as the survey tells, "and fit; and 13 to 15 hold", of which the survey tells the total
unfoldable pub sound_by : Slc → Seen → ℕ → List ℕ → Bool
sound_by slc s memory log =
    s.sound && leb s.total memory
    && (leb slc.type_len 11 && good_text (take slc.type_len slc.type_text))
    && good_log_by slc log
