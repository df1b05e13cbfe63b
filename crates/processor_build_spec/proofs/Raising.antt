-- The three parts together are `new_of`: the records that are laid are the planned ones, and a refusal lays none.
use Rattle.std.specs.Prelude.{Option, None, Some, Result, Ok, Err}
use Prim.Native.Nat.{ℕ, zero, suc, ◌+◌, ◌≤◌, ◌<◌, min}
use mathlib.Core.Path.{◌≡◌, refl, sym, ap, ap₂, ◌∙◌}
use mathlib.Core.Bool.{Bool, true, false, cond}
use mathlib.Core.List.{List, [], ◌∷◌, ◌++◌, map}
use native.Mathlib.Nat.{mod-eq_of_lt}
use native.Mathlib.Numerals.{add-one}
use native.Mathlib.Omega.{arith}
use borrow.Author.Tests.{eqb-true, leb-true, leb-false, ltb-true}
use lib.Dec.{leb, eqb}
use lib.ListN.{length, take, drop, get_or, set, replicate, length-set}
use lib.Seq.{drop-cons, take-suc, take-length, append_snoc, set_at, length-take-le}
use Rattle.base.specs.declared.refusal.Refusal.{Refusal}
use Rattle.base.specs.declared.refusal.Refusal.TheVariants.{UnusableTypeText, FilesBeyondRoom, UnusableDatalog}
use Rattle.base.specs.Put.{put}
use Rattle.parser_spec.proofs.Held.{no_some}
use Rattle.file_type.specs.Table.{element_size}
use Rattle.file_type.proofs.ElementSizes.{size_above}
use Rattle.processor_spec.specs.declared.Built.{Built}
use Rattle.processor_spec.specs.declared.FileRecord.{FileRecord}
use Rattle.processor_spec.specs.Build.{wanted_of, or_defaults, file_refusal, Plan, planned, fits, log_fits, or_then, build_refusal, slc_of, raise, new_of, plan_of, raised}
use Rattle.processor_spec.specs.State.{every, known_code, good_record, end_to_end, total, good_text, good_table}
use Rattle.processor_spec.proofs.NewSound.{built_state, built_sound}
use Rattle.processor_spec.proofs.Files.{sound_table}
use Rattle.processor_spec.proofs.Tests.{and_l, and_r}
use Rattle.processor_build_spec.specs.declared.Sums.{Sums}
use Rattle.processor_build_spec.specs.Plans.{judged, judged_of, no_record, narrowed, record_of, stored, laid_of, laid_by, Ended, ended, slc_with, finish_of}

-- ---- the records of a good table are as narrow as their fields
code_byte : (code : ℕ) → known_code code ≡ true → code < 256
unfolding known_code
code_byte code h = go (leb code 255) refl
  where
    go : (b : Bool) → leb code 255 ≡ b → code < 256
    go true e = omega (arith, leb-true code 255 e)
    go false e =
        let z : 0 ≡ element_size code = size_above code (leb-false code 255 e) in
        let l : 0 < element_size code = ltb-true 0 (element_size code) h in
        absurd (omega arith)

narrow_one : (r : FileRecord) → r.number < 65536 → r.code < 256 → r.start < 65536 → r.length < 65536 → narrowed r ≡ r
unfolding narrowed
narrow_one r n c s l = λ i. record { number = mod-eq_of_lt n i; code = mod-eq_of_lt c i; start = mod-eq_of_lt s i; length = mod-eq_of_lt l i }

narrow_good : (at : ℕ) (rs : List FileRecord) (i : ℕ) → every good_record rs ≡ true → end_to_end at rs ≡ true → at + total rs ≤ 65535 → narrowed (get_or rs i no_record) ≡ get_or rs i no_record
unfolding every good_record end_to_end total
narrow_good at [] i g e l = unfold narrowed in refl
narrow_good at (r ∷ rs) zero g e l =
    let n : r.number ≤ 255 = leb-true r.number 255 (search (and_l, and_r)) in
    let c : r.code < 256 = code_byte r.code (search (and_l, and_r)) in
    let s : r.start ≡ at = eqb-true r.start at (and_l _ _ e) in
    narrow_one r (omega arith) c (omega arith) (omega arith)
narrow_good at (r ∷ rs) (suc i) g e l = narrow_good (at + r.length) rs i (search and_r) (and_r (eqb r.start at) _ e) (omega arith)

-- ---- the records that are laid
pub stored_length : (fs : List (List ℕ)) (k : ℕ) (old : List FileRecord) → length (stored fs k old) ≡ length old
unfolding stored
stored_length fs zero old = refl
stored_length fs (suc k) old = length-set (stored fs k old) k (record_of fs k) ∙ stored_length fs k old

pub stored_next : (fs : List (List ℕ)) (i : ℕ) (old : List FileRecord) → set (stored fs i old) i (record_of fs i) ≡ stored fs (i + 1) old
unfolding stored
stored_next fs i old = sym (ap (λ (k : ℕ). stored fs k old) (add-one i))

module _ (fs : List (List ℕ)) (rs : List FileRecord) (are : (i : ℕ) → record_of fs i ≡ get_or rs i no_record) where
  stored_is : (k : ℕ) (old : List FileRecord) → k ≤ length rs → k ≤ length old → stored fs k old ≡ take k rs ++ drop k old
  unfolding stored
  stored_is zero old h l = refl
  stored_is (suc k) old h l =
      let p : length (take k rs) ≡ k = length-take-le k rs (omega arith) in
      ap₂ (λ (x : List FileRecord) (r : FileRecord). set x k r) (stored_is k old (omega arith) (omega arith) ∙ ap (λ (x : List FileRecord). take k rs ++ x) (drop-cons old k no_record l)) (are k)
      ∙ set_at (take k rs) (get_or old k no_record) (drop (suc k) old) (get_or rs k no_record) k p
      ∙ sym (append_snoc (take k rs) (get_or rs k no_record) (drop (suc k) old))
      ∙ ap (λ (x : List FileRecord). x ++ drop (suc k) old) (sym (take-suc rs k no_record h))

  laid_all : (old : List FileRecord) → length rs ≤ length old → laid_of fs (length rs) old ≡ rs ++ drop (length rs) old
  unfolding laid_of
  laid_all old h =
      let m : min (length rs) (length old) ≡ length rs = omega arith in
      ap (λ (k : ℕ). stored fs k old) m ∙ stored_is (length rs) old (omega arith) h ∙ ap (λ (x : List FileRecord). x ++ drop (length rs) old) (take-length rs)

module _ (fs : List (List ℕ)) (j : Result Sums Refusal) (old t : List FileRecord) where
  pub lays_these : (s : Sums) → j ≡ Ok s → t ≡ laid_of fs s.records old → t ≡ laid_by fs j old
  unfolding laid_by
  lays_these s e q = rw e q

  pub lays_none : (e : Refusal) → j ≡ Err e → t ≡ old → t ≡ laid_by fs j old
  unfolding laid_by
  lays_none e p q = rw p q

-- ---- the parts together
module _ (fs : List (List ℕ)) (text log : List ℕ) (count : ℕ) (table : List FileRecord) (memory : List ℕ) where
  abbrev p : Plan
  p = plan_of fs text log count

  module _ (e : build_refusal p (length table) (length memory) ≡ None) where
    good : good_table (planned p) ≡ true
    good = sound_table (built_state p table memory e) (built_sound p table memory e)

    are : (i : ℕ) → record_of fs i ≡ get_or (planned p) i no_record
    unfolding record_of planned good_table
    are i =
        let g : good_table (planned p) ≡ true = good in
        let l : total (planned p) ≤ 65535 = leb-true (total (planned p)) 65535 (search and_r) in
        narrow_good 0 (planned p) i (search (and_l, and_r)) (search (and_l, and_r)) (omega arith)

    room : (length (planned p) ≤ length table) × (total (planned p) ≤ length memory)
    unfolding build_refusal fits
    room = go (file_refusal [] (or_defaults (map wanted_of fs))) (good_text text) (fits (planned p) (length table) (length memory)) refl (log_fits count log) e
      where
        go : (o : Option Refusal) (x y : Bool) → fits (planned p) (length table) (length memory) ≡ y → (l : Bool) → or_then o (cond x (cond y (cond l None (Some UnusableDatalog)) (Some FilesBeyondRoom)) (Some UnusableTypeText)) ≡ None
            → (length (planned p) ≤ length table) × (total (planned p) ≤ length memory)
        go (Some k) x y f l e = no_some (sym e)
        go None false y f l e = no_some (sym e)
        go None true false f l e = no_some (sym e)
        go None true true f l e = (leb-true (length (planned p)) (length table) (search (and_l, and_r)), leb-true (total (planned p)) (length memory) (search (and_l, and_r)))

    built_ready : (b : Built) (t : List FileRecord) (m : List ℕ) → t ≡ laid_of fs (length (planned p)) table
        → ended b m ≡ finish_of (judged None (planned p)) text count memory → raised b t m ≡ raise None p table memory
    unfolding finish_of slc_of slc_with
    built_ready b t m et em =
        let k : min (total (planned p)) (length memory) ≡ total (planned p) = omega (arith, room.1) in
        let q : t ≡ planned p ++ drop (length (planned p)) table = et ∙ laid_all fs (planned p) are table room.0 in
        let w : ended b m ≡ ended (raise None p table memory).built (put memory 0 (replicate (total (planned p)) 0)) = em ∙ ap (λ (j : ℕ). ended (raise None p table memory).built (put memory 0 (replicate j 0))) k in
        ap₂ (λ (x : Ended) (y : List FileRecord). raised x.built y x.memory) w q

  -- what is judged, then laid, then finished, is what `new_of` gives
  pub new_is : (j : Result Sums Refusal) (b : Built) (t : List FileRecord) (m : List ℕ) → j ≡ judged_of p (length table) (length memory) → t ≡ laid_by fs j table
      → ended b m ≡ finish_of j text count memory → raised b t m ≡ new_of p table memory
  unfolding new_of judged_of laid_by finish_of
  new_is j b t m ej et em = go (build_refusal p (length table) (length memory)) refl ej
    where
      go : (o : Option Refusal) → build_refusal p (length table) (length memory) ≡ o → j ≡ judged o (planned p) → raised b t m ≡ raise o p table memory
      go None e q = built_ready e b t m (et ∙ ap (λ (x : Result Sums Refusal). laid_by fs x table) q) (em ∙ ap (λ (x : Result Sums Refusal). finish_of x text count memory) q)
      go (Some n) e q =
          ap₂ (λ (x : Ended) (y : List FileRecord). raised x.built y x.memory) (em ∙ ap (λ (x : Result Sums Refusal). finish_of x text count memory) q) (et ∙ ap (λ (x : Result Sums Refusal). laid_by fs x table) q)
