-- What a call's last part says is what the exported call says, with the answer in numbers.
use Prim.Native.Nat.{ℕ}
use mathlib.Core.Path.{◌≡◌, refl, ap, subst, ◌∙◌}
use mathlib.Core.List.{List}
use lib.ListN.{length}
use Rattle.base.specs.Outcome.{Outcome}
use Rattle.element_spec.specs.Decode.{Says}
use Rattle.file_type.specs.Table.{of_code}
use Rattle.link_element_access.proofs.AccessByCode.{read_in_is, set_in_is}
use Rattle.link_element_access.specs.AccessByCode.{read_in, read_in_by, set_in, set_in_by}
use Rattle.link_element_access.specs.declared.SlcSetting.{SlcSetting}
use Rattle.link_element_access.specs.declared.SlcSpot.{SlcSpot}
use Rattle.link_elements.specs.ElementRecords.{ReadsInNumbers, StoresInNumbers}
use Rattle.link_elements.specs.declared.SlcElement.{SlcElement}
use Rattle.processor_spec.specs.Plain.{state_of}
use Rattle.processor_spec.specs.declared.FileRecord.{FileRecord}
use Rattle.processor_spec.specs.declared.Slc.{Slc}
use Rattle.processor_table.specs.Survey.{survey_of}
use Rattle.processor_table.specs.declared.Seen.{Seen}

-- an element, by a type code: what is said with the survey is said of the table
module _ (slc : Slc) (t : List FileRecord) (s : Seen) (memory log text : List ℕ) where
  pub reads : (w : SlcSpot) (r : SlcElement) (text' : List ℕ) → s ≡ survey_of t slc.files w.number
      → ReadsInNumbers (read_in_by (of_code w.code) slc s w memory log (length text)) text r text'
      → ReadsInNumbers (read_in (of_code w.code) (state_of slc t memory log) w (length text)) text r text'
  reads w r text' e h =
      subst (λ (x : Says). ReadsInNumbers x text r text')
      (ap (λ (z : Seen). read_in_by (of_code w.code) slc z w memory log (length text)) e ∙ read_in_is slc t memory log (of_code w.code) w (length text)) h

  pub sets : (w : SlcSetting) (r : ℕ) (memory' : List ℕ) → s ≡ survey_of t slc.files w.number
      → StoresInNumbers (set_in_by (of_code w.code) slc s w memory log text) memory r memory'
      → StoresInNumbers (set_in (of_code w.code) (state_of slc t memory log) w text) memory r memory'
  sets w r memory' e h =
      subst (λ (x : Outcome). StoresInNumbers x memory r memory')
      (ap (λ (z : Seen). set_in_by (of_code w.code) slc z w memory log text) e ∙ set_in_is slc t memory log (of_code w.code) w text) h
