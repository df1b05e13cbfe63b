-- Element access (document 01, "Element access").
use Rattle.std.specs.Prelude.{ℕ, ◌+◌, cond, List, take, drop, Option, None, Some}
use Rattle.base.specs.declared.refusal.Refusal.TheVariants.{Unsound, NoSuchElement}
use Rattle.base.specs.Outcome.{Outcome, refused, lays}
use Rattle.element_spec.specs.Decode.{Says, refuses, decoded}
use Rattle.element_spec.specs.declared.Value.{Value}
use Rattle.element_spec.specs.Encode.{encoded}
use Rattle.file_type.specs.declared.FileType.{FileType}
use Rattle.file_type.specs.Table.{row}
use Rattle.processor_spec.specs.Files.{locate}
use Rattle.processor_spec.specs.State.{State, sound}

-- 19: "Does the file exist with the given type, and the element lie in it?": its place in the data memory
unfoldable pub element_at : State → FileType → ℕ → ℕ → Option ℕ
element_at s t file element = locate s.records file (row t).code element 0 (row t).size

abbrev pub element_bytes : FileType → List ℕ → ℕ → List ℕ
element_bytes t memory at = take (row t).size (drop at memory)

-- what is done to an element, as it is done to the data memory
abbrev pub behind : ℕ → Outcome → Outcome
behind at (refused e) = refused e
behind at (lays place bs) = lays (at + place) bs

abbrev pub set_at : Option ℕ → FileType → Value → List ℕ → List ℕ → Outcome
set_at None t v text memory = refused NoSuchElement
set_at (Some at) t v text memory = behind at (encoded t v text (element_bytes t memory at))

-- setting: 16, 19, then 20 to 23 of the element's bytes; what the call does with the data memory
unfoldable pub set_of : State → FileType → ℕ → ℕ → Value → List ℕ → Outcome
set_of s t file element v text = cond (sound s) (set_at (element_at s t file element) t v text s.memory) (refused Unsound)

abbrev pub read_at : Option ℕ → FileType → List ℕ → ℕ → Says
read_at None t memory room = refuses NoSuchElement
read_at (Some at) t memory room = decoded t (element_bytes t memory at) room

-- reading: 16, 19, then 24 with the room for text
unfoldable pub read_of : State → FileType → ℕ → ℕ → ℕ → Says
read_of s t file element room = cond (sound s) (read_at (element_at s t file element) t s.memory room) (refuses Unsound)
