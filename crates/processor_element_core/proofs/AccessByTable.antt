-- What the cores say with the survey, the calls say with the table.
use Rattle.std.specs.Prelude.{Result}
use Prim.Native.Nat.{ℕ}
use mathlib.Core.Path.{◌≡◌, subst, ap, ◌∙◌}
use mathlib.Core.List.{List}
use lib.ListN.{length}
use Rattle.base.specs.declared.refusal.Refusal.{Refusal}
use Rattle.base.specs.Outcome.{Outcome}
use Rattle.element_spec.specs.declared.Element.{Element}
use Rattle.element_spec.specs.Decode.{Says, Reads}
use Rattle.element_spec.specs.Encode.{Stores}
use Rattle.processor_spec.specs.declared.FileRecord.{FileRecord}
use Rattle.processor_spec.specs.declared.Slc.{Slc}
use Rattle.processor_spec.specs.ElementAccess.{read_of, set_of}
use Rattle.processor_spec.specs.Plain.{state_of}
use Rattle.processor_element_core.specs.declared.Setting.{Setting}
use Rattle.processor_element_core.specs.declared.Spot.{Spot}
use Rattle.processor_element_core.specs.AccessBySurvey.{read_by, set_by}
use Rattle.processor_element_core.proofs.AccessIs.{read_is, set_is}
use Rattle.processor_table.specs.declared.Seen.{Seen}
use Rattle.processor_table.specs.Survey.{survey_of}

module _ (slc : Slc) (t : List FileRecord) (s : Seen) (memory log text : List ℕ) where
  pub reads : (w : Spot) (r : Result Element Refusal) (text' : List ℕ) → s ≡ survey_of t slc.files w.number → Reads (read_by slc s w memory log (length text)) text r text'
      → Reads (read_of (state_of slc t memory log) w.file_type w.number w.element (length text)) text r text'
  reads w r text' e h = subst (λ (x : Says). Reads x text r text') (ap (λ (z : Seen). read_by slc z w memory log (length text)) e ∙ read_is slc t memory log w (length text)) h

  pub sets : (w : Setting) (r : Result (Unit {0}) Refusal) (memory' : List ℕ) → s ≡ survey_of t slc.files w.number → Stores (set_by slc s w memory log text) memory r memory'
      → Stores (set_of (state_of slc t memory log) w.file_type w.number w.element w.value text) memory r memory'
  sets w r memory' e h = subst (λ (x : Outcome). Stores x memory r memory') (ap (λ (z : Seen). set_by slc z w memory log text) e ∙ set_is slc t memory log w text) h
