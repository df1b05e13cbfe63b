-- Element access by a type code (document 01, "Element access").
use Rattle.std.specs.Prelude.{ℕ, Bool, cond, List, length, Option, None, Some}
use Rattle.base.specs.Outcome.{Outcome, refused}
use Rattle.base.specs.declared.refusal.Refusal.{Refusal}
use Rattle.base.specs.declared.refusal.Refusal.TheVariants.{Unsound, NoSuchElement}
use Rattle.element_spec.specs.Decode.{Says, refuses}
use Rattle.processor_element_core.specs.declared.Setting.{Setting}
use Rattle.processor_element_core.specs.declared.Spot.{Spot}
use Rattle.processor_element_core.specs.AccessBySurvey.{read_by, set_by}
use Rattle.processor_soundness.specs.Sound.{sound_by}
use Rattle.file_type.specs.declared.FileType.{FileType}
use Rattle.processor_spec.specs.declared.Slc.{Slc}
use Rattle.processor_spec.specs.ElementAccess.{read_of, set_of}
use Rattle.processor_spec.specs.State.{State, sound}
use Rattle.processor_table.specs.declared.Seen.{Seen}
use Rattle.link_element_access.specs.declared.SlcSetting.{SlcSetting}
use Rattle.link_element_access.specs.declared.SlcSpot.{SlcSpot}
use Rattle.link_elements.specs.ElementRecords.{value_of}

-- a code that no type has: "Sound state? no: 16. Does the file exist with the given type ..? no: 19."
abbrev pub no_type : Bool → Refusal
no_type sound = cond sound NoSuchElement Unsound

-- reading, by the type of the code
unfoldable pub read_in : Option FileType → State → SlcSpot → ℕ → Says
read_in None s w room = refuses (no_type (sound s))
read_in (Some t) s w room = read_of s t w.number w.element room

-- setting, by the type of the code
unfoldable pub set_in : Option FileType → State → SlcSetting → List ℕ → Outcome
set_in None s w text = refused (no_type (sound s))
set_in (Some t) s w text = set_of s t w.number w.element (value_of t w.value) text

-- ---- the same, by what the survey of the file table tells
abbrev pub spot_of : FileType → SlcSpot → Spot
spot_of t w = record { number = w.number; file_type = t; element = w.element }

abbrev pub setting_of : FileType → SlcSetting → Setting
setting_of t w = record { number = w.number; file_type = t; element = w.element; value = value_of t w.value }

unfoldable pub read_in_by : Option FileType → Slc → Seen → SlcSpot → List ℕ → List ℕ → ℕ → Says
read_in_by None slc s w memory log room = refuses (no_type (sound_by slc s (length memory) log))
read_in_by (Some t) slc s w memory log room = read_by slc s (spot_of t w) memory log room

unfoldable pub set_in_by : Option FileType → Slc → Seen → SlcSetting → List ℕ → List ℕ → List ℕ → Outcome
set_in_by None slc s w memory log text = refused (no_type (sound_by slc s (length memory) log))
set_in_by (Some t) slc s w memory log text = set_by slc s (setting_of t w) memory log text
