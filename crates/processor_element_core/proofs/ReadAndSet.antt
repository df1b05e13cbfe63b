-- Reading and setting, question by question.
use Rattle.std.specs.Prelude.{Option, None, Some, Result, Ok, Err, ok_or}
use Prim.Native.Nat.{ℕ, ◌+◌, ◌-◌, ◌≤◌, ◌<◌, min}
use mathlib.Core.Path.{◌≡◌, refl, sym, ap, subst, ◌∙◌}
use mathlib.Core.Bool.{Bool, true, false, not}
use mathlib.Core.List.{List, [], ◌∷◌, ◌++◌, append_assoc}
use native.Mathlib.Omega.{arith}
use borrow.Author.Tests.{leb-true, leb-false, lt-ltb, not-true, not-false}
use lib.Dec.{leb}
use lib.ListN.{length, take, drop, length-append, length-take, length-drop, take-append-drop}
use lib.Seq.{length-take-le, take-add, take-take, drop-drop, drop-append-le}
use Rattle.base.specs.declared.refusal.Refusal.{Refusal}
use Rattle.base.specs.declared.refusal.Refusal.TheVariants.{Unsound, NoSuchElement}
use Rattle.base.specs.Outcome.{Outcome, refused, lays}
use Rattle.base.specs.Put.{put}
use Rattle.base.proofs.Put.{put_none}
use Rattle.element_spec.specs.declared.Element.{Element}
use Rattle.element_spec.specs.Decode.{Says, Reads, decoded}
use Rattle.element_spec.specs.declared.Value.{Value}
use Rattle.element_spec.specs.Encode.{Stores, encoded}
use Rattle.file_type.specs.declared.FileType.{FileType}
use Rattle.file_type.specs.Table.{row}
use Rattle.file_type.proofs.FileTypes.{size_some}
use Rattle.processor_spec.specs.declared.Slc.{Slc}
use Rattle.processor_spec.specs.ElementAccess.{behind, set_at, read_at}
use Rattle.processor_table.specs.declared.Seen.{Seen}
use Rattle.processor_soundness.specs.Sound.{sound_by}
use Rattle.processor_element_core.specs.declared.Setting.{Setting}
use Rattle.processor_element_core.specs.declared.Spot.{Spot}
use Rattle.processor_element_core.specs.AccessBySurvey.{element_by, read_by, set_here, set_by}

not_both : {A B : Type 0} {x : B} {n : Refusal} → ◌≡◌ {A = Result B Refusal} (Ok x) (Err n) → A
not_both e = absurd (let z : ◌≡◌ {A = ℕ} 0 1 = cc in omega arith)

-- a place that is there, or isn't
pub is_there : (p : Option ℕ) (r : Result ℕ Refusal) (at : ℕ) → r ≡ ok_or p NoSuchElement → r ≡ Ok at → p ≡ Some at
is_there None r at e f = not_both (sym f ∙ e)
is_there (Some x) r at e f = let g : Ok x ≡ Ok at = sym e ∙ f in cc

pub not_there : (p : Option ℕ) (r : Result ℕ Refusal) (n : Refusal) → r ≡ ok_or p NoSuchElement → r ≡ Err n → (p ≡ None) × (n ≡ NoSuchElement)
not_there None r n e f = let g : Err n ≡ Err NoSuchElement = sym f ∙ e in (refl, cc)
not_there (Some x) r n e f = not_both (sym e ∙ f)

-- ---- reading
module _ (slc : Slc) (s : Seen) (w : Spot) (memory log text : List ℕ) (y : Bool) (ey : y ≡ sound_by slc s (length memory) log) where
  pub read_unsound : not y ≡ true → Reads (read_by slc s w memory log (length text)) text (Err Unsound) text
  unfolding read_by
  read_unsound t = rw (sym ey ∙ not-true y t) (record { answer = refl; memory = refl })

  module _ (on : not y ≡ false) (p : Option ℕ) (ep : p ≡ element_by s w.file_type w.element) where
    at_place : read_by slc s w memory log (length text) ≡ read_at p w.file_type memory (length text)
    unfolding read_by
    at_place = rw (sym ey ∙ not-false y on, ep)

    pub read_none : p ≡ None → Reads (read_by slc s w memory log (length text)) text (Err NoSuchElement) text
    read_none e =
        rw (at_place ∙ ap (λ (q : Option ℕ). read_at q w.file_type memory (length text)) e) (record { answer = refl; memory = refl })

    pub read_there : (at size : ℕ) (part : List ℕ) (r : Result Element Refusal) (text' : List ℕ) → p ≡ Some at → size ≡ (row w.file_type).size → part ≡ take size (drop at memory)
        → Reads (decoded w.file_type part (length text)) text r text' → Reads (read_by slc s w memory log (length text)) text r text'
    read_there at size part r text' e es eb d =
        subst (λ (o : Says). Reads o text r text')
        (sym (at_place ∙ ap (λ (q : Option ℕ). read_at q w.file_type memory (length text)) e ∙ ap (λ (x : List ℕ). decoded w.file_type x (length text)) (sym (eb ∙ ap (λ (k : ℕ). take k (drop at memory)) es))))
        d

-- ---- setting
module _ (slc : Slc) (s : Seen) (w : Setting) (memory log text : List ℕ) (y : Bool) (ey : y ≡ sound_by slc s (length memory) log) where
  pub set_unsound : not y ≡ true → Stores (set_by slc s w memory log text) memory (Err Unsound) memory
  unfolding set_by
  set_unsound t = rw (sym ey ∙ not-true y t) (record { answer = refl; memory = refl })

  module _ (on : not y ≡ false) (p : Option ℕ) (ep : p ≡ element_by s w.file_type w.element) where
    set_place : set_by slc s w memory log text ≡ set_at p w.file_type w.value text memory
    unfolding set_by
    set_place = rw (sym ey ∙ not-false y on, ep)

    pub set_none : p ≡ None → Stores (set_by slc s w memory log text) memory (Err NoSuchElement) memory
    set_none e =
        rw (set_place ∙ ap (λ (q : Option ℕ). set_at q w.file_type w.value text memory) e) (record { answer = refl; memory = refl })

    pub set_there : (at : ℕ) (r : Result (Unit {0}) Refusal) (memory' : List ℕ) → p ≡ Some at → Stores (set_here at w.file_type w.value text memory) memory r memory'
        → Stores (set_by slc s w memory log text) memory r memory'
    unfolding set_here
    set_there at r memory' e d =
        subst (λ (o : Outcome). Stores o memory r memory') (sym (set_place ∙ ap (λ (q : Option ℕ). set_at q w.file_type w.value text memory) e)) d

-- ---- bytes laid over a part
empty : (l : List ℕ) → length l ≡ 0 → l ≡ []
empty [] e = refl
empty (x ∷ l) e = absurd (omega arith)

module _ (m : List ℕ) (at size : ℕ) (h : at + size ≤ length m) where
  abbrev part : List ℕ
  part = take size (drop at m)

  abbrev around : List ℕ → List ℕ
  around p = take at m ++ (p ++ drop size (drop at m))

  part_length : length part ≡ size
  part_length = length-take-le size (drop at m) (omega (arith, length-drop at m))

  same : around part ≡ m
  same = ap (λ (x : List ℕ). take at m ++ x) (take-append-drop size (drop at m)) ∙ take-append-drop at m

  laid_within : (p : ℕ) (bs : List ℕ) → p + length bs ≤ size → around (put part p bs) ≡ put m (at + p) bs
  unfolding put
  laid_within p bs g =
      let a : take (at + p) m ≡ take at m ++ take p (drop at m) = take-add at p m in
      let b : take p part ≡ take p (drop at m) = take-take p size (drop at m) (omega arith) in
      let n : at + p + length bs ≡ at + (p + length bs) = omega arith in
      let c : drop (p + length bs) (drop at m) ≡ drop (p + length bs) part ++ drop size (drop at m) =
      ap (drop (p + length bs)) (sym (take-append-drop size (drop at m))) ∙ drop-append-le (p + length bs) part (drop size (drop at m)) (omega (arith, part_length)) in
      let d : drop (at + p + length bs) m ≡ drop (p + length bs) part ++ drop size (drop at m) = ap (λ (k : ℕ). drop k m) n ∙ sym (drop-drop (p + length bs) at m) ∙ c in
      rw (a, b, d) (simp append_assoc)

  -- what keeps the part's length lies in it, or is nothing
  laid : (p : ℕ) (bs : List ℕ) → length (put part p bs) ≡ size → around (put part p bs) ≡ put m (at + p) bs
  unfolding put
  laid p bs e = go (leb (p + length bs) size) refl
    where
      go : (b : Bool) → leb (p + length bs) size ≡ b → around (put part p bs) ≡ put m (at + p) bs
      go true t = laid_within p bs (leb-true (p + length bs) size t)
      go false t =
          let l : length (take p part) ≡ min p (length part) = length-take p part in
          let d : length (drop (p + length bs) part) ≡ length part - (p + length bs) = length-drop (p + length bs) part in
          let n : length (take p part) + (length bs + length (drop (p + length bs) part)) ≡ size = sym (length-append (take p part) _ ∙ ap (λ (k : ℕ). length (take p part) + k) (length-append bs _)) ∙ e in
          let z : length bs ≡ 0 = omega (arith, l, d, n, leb-false (p + length bs) size t, part_length) in
          let q : bs ≡ [] = empty bs z in
          ap (λ (x : List ℕ). around (put part p x)) q ∙ ap around (put_none part p) ∙ same ∙ sym (ap (put m (at + p)) q ∙ put_none m (at + p))

  pub set_laid : (o : Outcome) (r : Result (Unit {0}) Refusal) (part' : List ℕ) → Stores o part r part' → length part' ≡ size → Stores (behind at o) m r (around part')
  set_laid (refused n) r part' d l = record { answer = d.answer; memory = ap around d.memory ∙ same }
  set_laid (lays p bs) r part' d l = record { answer = d.answer; memory = ap around d.memory ∙ laid p bs (ap length (sym d.memory) ∙ l) }

-- ---- setting at a place
module _ (m : List ℕ) (at : ℕ) (t : FileType) (v : Value) (text : List ℕ) (size : ℕ) (es : size ≡ (row t).size) where
  too_short : length (take (row t).size (drop at m)) < (row t).size → Stores (set_here at t v text m) m (Err NoSuchElement) m
  unfolding set_here encoded
  too_short h = rw (lt-ltb (length (take (row t).size (drop at m))) (row t).size h) (record { answer = refl; memory = refl })

  cut : length m < at + size → length (take (row t).size (drop at m)) < (row t).size
  cut h =
      let a : length (take (row t).size (drop at m)) ≡ min (row t).size (length (drop at m)) = length-take (row t).size (drop at m) in
      omega (arith, a, length-drop at m, es, size_some t)

  pub set_past : length m < at → Stores (set_here at t v text m) m (Err NoSuchElement) m
  set_past h = too_short (cut (omega arith))

  pub set_short : at ≤ length m → length m - at < size → Stores (set_here at t v text m) m (Err NoSuchElement) m
  set_short h l = too_short (cut (omega arith))

  pub set_done : at ≤ length m → size ≤ length m - at → (r : Result (Unit {0}) Refusal) (part' : List ℕ) → Stores (encoded t v text (take (at + size - at) (drop at m))) (take (at + size - at) (drop at m)) r part'
      → length part' ≡ length (take (at + size - at) (drop at m)) → Stores (set_here at t v text m) m r (take at m ++ (part' ++ drop (at + size - at) (drop at m)))
  unfolding set_here
  set_done h l r part' =
      let z : at + size - at ≡ size = omega arith in
      rw (z, sym es) (λ d n. set_laid m at size (omega arith) (encoded t v text (take size (drop at m))) r part' d (n ∙ part_length m at size (omega arith)))
