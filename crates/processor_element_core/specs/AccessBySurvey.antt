-- Element access, by what the survey of the file table tells (document 01, "Element access").
use Rattle.std.specs.Prelude.{ℕ, ◌+◌, ◌*◌, ◌&&◌, cond, List, leb, eqb, length, Option, None, Some, option_and_then}
use Rattle.base.specs.declared.refusal.Refusal.TheVariants.{Unsound}
use Rattle.base.specs.Outcome.{Outcome, refused}
use Rattle.element_spec.specs.Decode.{Says, refuses}
use Rattle.element_spec.specs.declared.Value.{Value}
use Rattle.file_type.specs.declared.FileType.{FileType}
use Rattle.file_type.specs.Table.{row}
use Rattle.processor_spec.specs.declared.FileRecord.{FileRecord}
use Rattle.processor_spec.specs.declared.Slc.{Slc}
use Rattle.processor_spec.specs.ElementAccess.{set_at, read_at}
use Rattle.processor_soundness.specs.Sound.{sound_by}
use Rattle.processor_table.specs.declared.Seen.{Seen}
use Rattle.processor_element_core.specs.declared.Setting.{Setting}
use Rattle.processor_element_core.specs.declared.Spot.{Spot}

-- 19: "Does the file exist with the given type, and the element lie in it?": its place in the data memory
abbrev pub element_in : FileType → ℕ → FileRecord → Option ℕ
element_in t element r =
    cond (eqb r.code (row t).code && leb (element * (row t).size + (row t).size) r.length)
    (Some (r.start + element * (row t).size))
    None

unfoldable pub element_by : Seen → FileType → ℕ → Option ℕ
element_by s t element = option_and_then (element_in t element) s.found

-- reading: 16, 19, then 24 with the room for text
unfoldable pub read_by : Slc → Seen → Spot → List ℕ → List ℕ → ℕ → Says
read_by slc s w memory log room =
    cond (sound_by slc s (length memory) log) (read_at (element_by s w.file_type w.element) w.file_type memory room) (refuses Unsound)

-- setting the element at a place
unfoldable pub set_here : ℕ → FileType → Value → List ℕ → List ℕ → Outcome
set_here at t v text memory = set_at (Some at) t v text memory

-- setting: 16, 19, then 20 to 23 of the element's bytes
unfoldable pub set_by : Slc → Seen → Setting → List ℕ → List ℕ → List ℕ → Outcome
set_by slc s w memory log text =
    cond (sound_by slc s (length memory) log) (set_at (element_by s w.file_type w.element) w.file_type w.value text memory) (refused Unsound)
