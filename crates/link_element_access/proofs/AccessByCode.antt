-- Element access by a type code.
use Prim.Native.Nat.{ℕ}
use mathlib.Core.Path.{◌≡◌, refl, ap, ◌∙◌}
use mathlib.Core.Bool.{Bool}
use mathlib.Core.List.{List}
use Rattle.std.specs.Prelude.{Option, None, Some, Result, Err}
use Rattle.base.specs.declared.refusal.Refusal.{Refusal}
use lib.ListN.{length}
use Rattle.base.specs.Outcome.{refused}
use Rattle.element_spec.specs.declared.Element.{Element}
use Rattle.element_spec.specs.Decode.{refuses, Reads}
use Rattle.processor_element_core.specs.declared.Setting.{Setting}
use Rattle.processor_element_core.specs.declared.Spot.{Spot}
use Rattle.processor_element_core.specs.AccessBySurvey.{read_by, set_by}
use Rattle.processor_element_core.proofs.AccessIs.{read_is, set_is}
use Rattle.processor_soundness.specs.Sound.{sound_by}
use Rattle.processor_soundness.proofs.Surveyed.{sound_is}
use Rattle.element_spec.specs.Encode.{Stores}
use Rattle.file_type.specs.declared.FileType.{FileType}
use Rattle.file_type.specs.Table.{of_code}
use Rattle.processor_spec.specs.declared.FileRecord.{FileRecord}
use Rattle.processor_spec.specs.declared.Slc.{Slc}
use Rattle.processor_spec.specs.Plain.{state_of}
use Rattle.processor_table.specs.declared.Seen.{Seen}
use Rattle.processor_table.specs.Survey.{survey_of}
use Rattle.link_elements.specs.declared.SlcElement.{SlcElement}
use Rattle.link_elements.specs.ElementRecords.{stored_number, numbers_of, StoresInNumbers, ReadsInNumbers}
use Rattle.link_elements.proofs.ElementRecords.{in_numbers_lem, in_a_number}
use Rattle.link_element_access.specs.declared.SlcSetting.{SlcSetting}
use Rattle.link_element_access.specs.declared.SlcSpot.{SlcSpot}
use Rattle.link_element_access.specs.AccessByCode.{no_type, read_in, set_in, spot_of, setting_of, read_in_by, set_in_by}

module _ (slc : Slc) (s : Seen) (memory log text : List ℕ) {k : Option FileType} where
  module _ (w : SlcSpot) (e : k ≡ of_code w.code) {r : SlcElement} where
    pub read_known : {text' : List ℕ} {t : FileType} {at : Spot} {x : Result Element Refusal} → k ≡ Some t → at ≡ spot_of t w → Reads (read_by slc s at memory log (length text)) text x text' → r ≡ numbers_of x
        → ReadsInNumbers (read_in_by (of_code w.code) slc s w memory log (length text)) text r text'
    unfolding read_in_by
    read_known i a h n = rw (← e, i) (in_numbers_lem _ _ _ _ r (rw (← a) h) n)

    pub read_unknown : {n : Refusal} → k ≡ None → n ≡ no_type (sound_by slc s (length memory) log) → r ≡ numbers_of (Err n)
        → ReadsInNumbers (read_in_by (of_code w.code) slc s w memory log (length text)) text r text
    unfolding read_in_by
    read_unknown i h m = rw (← e, i) (record { answer = m ∙ ap (λ (z : Refusal). numbers_of (Err z)) h; memory = refl })

  module _ (w : SlcSetting) (e : k ≡ of_code w.code) {r : ℕ} where
    pub set_known : {memory' : List ℕ} {t : FileType} {to : Setting} {x : Result (Unit {0}) Refusal} → k ≡ Some t → to ≡ setting_of t w → Stores (set_by slc s to memory log text) memory x memory' → r ≡ stored_number x
        → StoresInNumbers (set_in_by (of_code w.code) slc s w memory log text) memory r memory'
    unfolding set_in_by
    set_known i a h n = rw (← e, i) (in_a_number _ _ _ _ r (rw (← a) h) n)

    pub set_unknown : {n : Refusal} → k ≡ None → n ≡ no_type (sound_by slc s (length memory) log) → r ≡ stored_number (Err n)
        → StoresInNumbers (set_in_by (of_code w.code) slc s w memory log text) memory r memory
    unfolding set_in_by
    set_unknown i h m = rw (← e, i) (record { answer = m ∙ ap (λ (z : Refusal). stored_number (Err z)) h; memory = refl })

-- ---- with the survey of the table
module _ (slc : Slc) (table : List FileRecord) (memory log : List ℕ) where
  pub read_in_is : (k : Option FileType) (w : SlcSpot) (room : ℕ)
      → read_in_by k slc (survey_of table slc.files w.number) w memory log room ≡ read_in k (state_of slc table memory log) w room
  unfolding read_in_by read_in
  read_in_is None w room = ap (λ (b : Bool). refuses (no_type b)) (sound_is slc table memory log w.number)
  read_in_is (Some t) w room = read_is slc table memory log (spot_of t w) room

  pub set_in_is : (k : Option FileType) (w : SlcSetting) (text : List ℕ)
      → set_in_by k slc (survey_of table slc.files w.number) w memory log text ≡ set_in k (state_of slc table memory log) w text
  unfolding set_in_by set_in
  set_in_is None w text = ap (λ (b : Bool). refused (no_type b)) (sound_is slc table memory log w.number)
  set_in_is (Some t) w text = set_is slc table memory log (setting_of t w) text
