-- What is read and set by the survey of the table is what is read and set of the state.
use Rattle.std.specs.Prelude.{Option, None, Some, option_and_then}
use Prim.Native.Nat.{ℕ, ◌+◌, ◌*◌, ◌<◌}
use mathlib.Core.Path.{◌≡◌, refl, sym, ap, ap₂, subst, ◌∙◌}
use mathlib.Core.Bool.{Bool, true, false, ◌&&◌, cond}
use mathlib.Core.List.{List, [], ◌∷◌}
use native.Mathlib.Omega.{arith}
use borrow.Author.Tests.{eqb-true, ltb-true}
use lib.Dec.{leb, eqb}
use lib.ListN.{length, take}
use Rattle.base.specs.declared.refusal.Refusal.TheVariants.{Unsound}
use Rattle.base.specs.Outcome.{refused}
use Rattle.element_spec.specs.Decode.{refuses}
use Rattle.file_type.specs.declared.FileType.{FileType}
use Rattle.file_type.specs.Table.{row, simulated_size, element_size}
use Rattle.file_type.proofs.FileTypes.{own_code}
use Rattle.parser_spec.proofs.Held.{no_some}
use Rattle.processor_spec.specs.declared.FileRecord.{FileRecord}
use Rattle.processor_spec.specs.declared.Slc.{Slc}
use Rattle.processor_spec.specs.ElementAccess.{element_at, set_at, set_of, read_at, read_of}
use Rattle.processor_spec.specs.Files.{find, offset, place_in, locate}
use Rattle.processor_spec.specs.Plain.{within, held_state, no_state, state_of}
use Rattle.processor_spec.specs.State.{State, every, known_code, good_record, good_table, sound}
use Rattle.processor_spec.proofs.Files.{sound_table}
use Rattle.processor_spec.proofs.Plain.{sound_within, held_is}
use Rattle.processor_spec.proofs.Tests.{and_l, and_r}
use Rattle.processor_soundness.proofs.Surveyed.{sound_is}
use Rattle.processor_table.specs.declared.Seen.{Seen}
use Rattle.processor_table.specs.Survey.{told_of, survey_of}
use Rattle.processor_element_core.specs.declared.Setting.{Setting}
use Rattle.processor_element_core.specs.declared.Spot.{Spot}
use Rattle.processor_element_core.specs.AccessBySurvey.{element_in, element_by, read_by, set_by}

-- ---- 16
module _ (slc : Slc) (table : List FileRecord) (memory log : List ℕ) (number : ℕ) where
  abbrev seen : Seen
  seen = survey_of table slc.files number

  abbrev records : List FileRecord
  records = take slc.files table

  -- a sound state is that of the records as they were surveyed
  module _ (h : sound (state_of slc table memory log) ≡ true) where
    inside : within slc table log ≡ true
    inside = sound_within slc table memory log h

    held : state_of slc table memory log ≡ held_state slc table memory log
    held = held_is slc table memory log inside

    good : good_table records ≡ true
    unfolding held_state
    good = sound_table (held_state slc table memory log) (subst (λ (s : State). sound s ≡ true) held h)

    told : seen ≡ told_of number records
    unfolding survey_of within
    told = let w : within slc table log ≡ true = inside in let l : leb slc.files (length table) ≡ true = search (and_l, and_r) in rw (l, good)

-- ---- 19
good_found : (n : ℕ) (rs : List FileRecord) (r : FileRecord) → every good_record rs ≡ true → find n rs ≡ Some r → good_record r ≡ true
unfolding every find
good_found n [] r g e = no_some e
good_found n (x ∷ xs) r g e = go (eqb x.number n) e (good_found n xs r (and_r (good_record x) _ g))
  where
    go : (b : Bool) → cond b (Some x) (find n xs) ≡ Some r → (find n xs ≡ Some r → good_record r ≡ true) → good_record r ≡ true
    go true e ih = let q : x ≡ r = cc in subst (λ (z : FileRecord). good_record z ≡ true) q (and_l _ _ g)
    go false e ih = ih e

-- the element size of a type whose code is known
size_is : (t : FileType) → known_code (row t).code ≡ true → element_size (row t).code ≡ (row t).size
unfolding known_code element_size
size_is t h =
    go (row t).simulated (ltb-true 0 (element_size (row t).code) h) (sym (ap simulated_size (own_code t)))
  where
    go : (b : Bool) → 0 < element_size (row t).code → element_size (row t).code ≡ cond b (row t).size 0 → element_size (row t).code ≡ (row t).size
    go true l e = e
    go false l e = absurd (omega arith)

module _ (rs : List FileRecord) (g : good_table rs ≡ true) (number : ℕ) (t : FileType) (element : ℕ) where
  pub element_is : element_by (told_of number rs) t element ≡ locate rs number (row t).code element 0 (row t).size
  unfolding element_by told_of locate good_table good_record
  element_is = go (find number rs) refl
    where
      go : (o : Option FileRecord) → find number rs ≡ o
          → option_and_then (element_in t element) o ≡ place_in o (row t).code element 0 (row t).size
      go None e = refl
      go (Some r) e = by_type (eqb r.code (row t).code) refl
        where
          by_type : (b : Bool) → eqb r.code (row t).code ≡ b
              → cond (b && leb (element * (row t).size + (row t).size) r.length) (Some (r.start + element * (row t).size)) None
              ≡ cond (b && leb (offset r element 0 + (row t).size) r.length) (Some (r.start + offset r element 0)) None
          by_type false q = refl
          by_type true q =
              let all-good : every good_record rs ≡ true = search (and_l, and_r) in
              let one : good_record r ≡ true = good_found number rs r all-good e in
              let c : r.code ≡ (row t).code = eqb-true r.code (row t).code q in
              let k : known_code r.code ≡ true = search (and_l, and_r) in
              let z : element_size r.code ≡ (row t).size = ap element_size c ∙ size_is t (subst (λ (n : ℕ). known_code n ≡ true) c k) in
              let o : offset r element 0 ≡ element * (row t).size = rw z (omega arith) in
              rw o

-- ---- the calls
module _ (slc : Slc) (table : List FileRecord) (memory log : List ℕ) where
  abbrev state : State
  state = state_of slc table memory log

  -- where an element is, of a sound state
  element_there : sound state ≡ true → (number : ℕ) (t : FileType) (element : ℕ) → element_by (survey_of table slc.files number) t element ≡ element_at state t number element
  unfolding element_at held_state
  element_there h number t element =
      ap (λ (s : Seen). element_by s t element) (told slc table memory log number h)
      ∙ element_is (take slc.files table) (good slc table memory log number h) number t element
      ∙ ap (λ (s : State). locate s.records number (row t).code element 0 (row t).size) (sym (held slc table memory log number h))

  memory_is : state.memory ≡ memory
  unfolding state_of held_state no_state
  memory_is = go (within slc table log)
    where
      go : (b : Bool) → (cond b (held_state slc table memory log) (no_state memory)).memory ≡ memory
      go true = refl
      go false = refl

  pub read_is : (w : Spot) (room : ℕ) → read_by slc (survey_of table slc.files w.number) w memory log room ≡ read_of state w.file_type w.number w.element room
  unfolding read_by read_of
  read_is w room =
      ap (λ (b : Bool). cond b (read_at (element_by (survey_of table slc.files w.number) w.file_type w.element) w.file_type memory room) (refuses Unsound)) (sound_is slc table memory log w.number)
      ∙ go (sound state) refl
    where
      go : (b : Bool) → sound state ≡ b → cond b (read_at (element_by (survey_of table slc.files w.number) w.file_type w.element) w.file_type memory room) (refuses Unsound)
          ≡ cond b (read_at (element_at state w.file_type w.number w.element) w.file_type state.memory room) (refuses Unsound)
      go false h = refl
      go true h = ap₂ (λ (o : Option ℕ) (m : List ℕ). read_at o w.file_type m room) (element_there h w.number w.file_type w.element) (sym memory_is)

  pub set_is : (w : Setting) (text : List ℕ)
      → set_by slc (survey_of table slc.files w.number) w memory log text ≡ set_of state w.file_type w.number w.element w.value text
  unfolding set_by set_of
  set_is w text =
      ap (λ (b : Bool). cond b (set_at (element_by (survey_of table slc.files w.number) w.file_type w.element) w.file_type w.value text memory) (refused Unsound)) (sound_is slc table memory log w.number)
      ∙ go (sound state) refl
    where
      go : (b : Bool) → sound state ≡ b → cond b (set_at (element_by (survey_of table slc.files w.number) w.file_type w.element) w.file_type w.value text memory) (refused Unsound)
          ≡ cond b (set_at (element_at state w.file_type w.number w.element) w.file_type w.value text state.memory) (refused Unsound)
      go false h = refl
      go true h = ap₂ (λ (o : Option ℕ) (m : List ℕ). set_at o w.file_type w.value text m) (element_there h w.number w.file_type w.element) (sym memory_is)
