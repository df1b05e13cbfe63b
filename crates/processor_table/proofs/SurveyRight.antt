-- The pass over the records gives what the definition says, which speaks of the list of records alone.
use Rattle.std.specs.Prelude.{Option, None, Some}
use Prim.Native.Nat.{ℕ, suc, ◌+◌, ◌%◌, ◌<◌, ◌≤◌, min}
use mathlib.Core.Path.{◌≡◌, refl, sym, ap, subst, ◌∙◌}
use mathlib.Core.List.{List, [], ◌∷◌}
use mathlib.Core.Bool.{Bool, true, false, ◌&&◌, cond, false≢true}
use native.Mathlib.Nat.{zero-add}
use native.Mathlib.Omega.{arith}
use native.Mathlib.Numerals.{add-one}
use borrow.Author.Tests.{ltb-true, ltb-false, leb-true, leb-false, eqb-true, lt-ltb, le-leb, lt-leb, ne_eqb}
use lib.Dec.{leb, ltb, eqb}
use lib.ListN.{length, get_or, take, drop, drop_of_length-le}
use lib.Seq.{drop-cons, length-take-le, take_all}
use Rattle.file_type.specs.Table.{of_code, element_size}
use Rattle.processor_spec.specs.declared.FileRecord.{FileRecord}
use Rattle.processor_spec.specs.Directory.{last_number}
use Rattle.processor_spec.specs.Files.{find}
use Rattle.processor_spec.specs.State.{every, known_code, good_record, ascend, end_to_end, total, good_table}
use Rattle.processor_spec.proofs.Tests.{and_l, and_r}
use Rattle.processor_table.specs.declared.Pass.{Pass}
use Rattle.processor_table.specs.Survey.{told_of, lost_of, survey_of}
use Rattle.processor_table.specs.SurveySteps.{folded, whole_of, follows_of, pass, found_by, found_in, no_record, first_number, begun_of, passed_of, seen, concluded_of}

-- ---- the tests, record by record, are the definition's

good : ℕ → ℕ → List FileRecord → Bool
good next at [] = true
good next at (r ∷ rs) = follows_of next at r && good (suc r.number) (at + r.length) rs

no_more : (b : Bool) → (b && false) ≡ false
no_more true = refl
no_more false = refl

-- the tests of a record and of the rest, sorted by what they test
sorted : (n l s k w g a e : Bool) → (n && l && s && (k && w) && (g && a && e)) ≡ ((l && k && w && g) && (n && a) && (s && e))
sorted true true true true true g a e = refl
sorted true true true true false g a e = refl
sorted true true true false w g a e = refl
sorted true true false k w g a e = sym (no_more (k && w && g && a))
sorted true false s k w g a e = refl
sorted false l s k w g a e = rw (no_more (l && k && w && g))

good_is : (rs : List FileRecord) (next at : ℕ) → good next at rs ≡ (every good_record rs && ascend next rs && end_to_end at rs)
unfolding good every good_record ascend end_to_end follows_of whole_of
good_is [] next at = refl
good_is (r ∷ rs) next at =
    ap (λ (b : Bool). leb next r.number && leb r.number 255 && eqb r.start at && (known_code r.code && eqb (r.length % element_size r.code) 0) && b) (good_is rs (suc r.number) (at + r.length))
    ∙ sorted (leb next r.number) (leb r.number 255) (eqb r.start at) (known_code r.code) (eqb (r.length % element_size r.code) 0) (every good_record rs) (ascend (suc r.number) rs) (end_to_end (at + r.length) rs)

-- ---- the pass over records that pass the tests

after : ℕ → List FileRecord → ℕ
after next [] = next
after next (r ∷ rs) = after (suc r.number) rs

last_is : (rs : List FileRecord) (n : ℕ) → after (suc n) rs ≡ suc (last_number n rs)
unfolding after last_number
last_is [] n = refl
last_is (r ∷ rs) n = last_is rs r.number

one_more : (rs : List FileRecord) → 0 < length rs → after 0 rs ≡ suc (last_number 0 rs)
unfolding after last_number
one_more [] h = omega arith
one_more (r ∷ rs) h = last_is rs r.number

module _ (next at : ℕ) (r : FileRecord) (h : follows_of next at r ≡ true) where
  from_next : next ≤ r.number
  unfolding follows_of
  from_next = let g : leb next r.number ≡ true = search (and_l, and_r) in leb-true next r.number g

  small : r.number ≤ 255
  unfolding follows_of
  small = let g : leb r.number 255 ≡ true = search (and_l, and_r) in leb-true r.number 255 g

  known : r.code ≡ 0 → ⊥
  unfolding follows_of whole_of known_code element_size of_code
  known e =
      let k : known_code r.code ≡ true = search (and_l, and_r) in
      false≢true (ap known_code (sym e) ∙ k)

last_small : (rs : List FileRecord) (next at : ℕ) → good next at rs ≡ true → next ≤ 256 → after next rs ≤ 256
unfolding good after
last_small [] next at g l = l
last_small (r ∷ rs) next at g l =
    last_small rs (suc r.number) (at + r.length) (and_r (follows_of next at r) _ g) (omega (arith, small next at r (and_l _ (good (suc r.number) (at + r.length) rs) g)))

-- numbers ascend, so that a number below is met no more
absent : (u : ℕ) (rs : List FileRecord) (next at : ℕ) → good next at rs ≡ true → u < next → find u rs ≡ None
unfolding good find
absent u [] next at g l = refl
absent u (r ∷ rs) next at g l =
    let h : next ≤ r.number = from_next next at r (and_l _ (good (suc r.number) (at + r.length) rs) g) in
    rw (ne_eqb r.number u (λ e. omega arith)) (absent u rs (suc r.number) (at + r.length) (and_r (follows_of next at r) _ g) (omega arith))

abbrev or_else : Option FileRecord → FileRecord → FileRecord
or_else None q = q
or_else (Some r) q = r

module _ (u next at : ℕ) (q r : FileRecord) where
  step_on : follows_of next at r ≡ true → passed_of (pass next at u q) r ≡ pass (suc r.number) (at + r.length) u (cond (eqb r.number u) r q)
  unfolding passed_of
  step_on e = rw (e, ← add-one r.number) (by_test_lem (eqb r.number u))
    where
      by_test_lem : (b : Bool) → pass (r.number + 1) (at + r.length) u (cond b r (found_by (pass next at u q))) ≡ pass (r.number + 1) (at + r.length) u (cond b r q)
      by_test_lem true = refl
      by_test_lem false = refl

  step_off : follows_of next at r ≡ false → passed_of (pass next at u q) r ≡ pass 65535 at u q
  unfolding passed_of
  step_off e = rw e

passes : (u : ℕ) (rs : List FileRecord) (next at : ℕ) (q : FileRecord) → good next at rs ≡ true
    → folded passed_of rs (pass next at u q) ≡ pass (after next rs) (at + total rs) u (or_else (find u rs) q)
unfolding folded good after total find
passes u [] next at q g = let e : at + 0 ≡ at = omega arith in rw e
passes u (r ∷ rs) next at q g =
    ap (folded passed_of rs) (step_on u next at q r (and_l _ (good (suc r.number) (at + r.length) rs) g))
    ∙ passes u rs (suc r.number) (at + r.length) (cond (eqb r.number u) r q) rest
    ∙ by_test_lem (eqb r.number u) refl
  where
    rest : good (suc r.number) (at + r.length) rs ≡ true
    rest = and_r (follows_of next at r) _ g

    sum : at + (r.length + total rs) ≡ at + r.length + total rs
    sum = omega arith

    by_test_lem : (b : Bool) → eqb r.number u ≡ b
        → pass (after (suc r.number) rs) (at + r.length + total rs) u (or_else (find u rs) (cond (eqb r.number u) r q))
        ≡ pass (after (suc r.number) rs) (at + (r.length + total rs)) u (or_else (cond (eqb r.number u) (Some r) (find u rs)) q)
    by_test_lem true e = rw (e, absent u rs (suc r.number) (at + r.length) rest (omega (arith, eqb-true r.number u e)), sum)
    by_test_lem false e = rw (e, sum)

-- a record that is found has a known code, which isn't 0, and the number that is sought
found_is : (u n k : ℕ) (rs : List FileRecord) (next at : ℕ) → good next at rs ≡ true → found_in (pass n k u (or_else (find u rs) no_record)) ≡ find u rs
unfolding good find
found_is u n k [] next at g = refl
found_is u n k (r ∷ rs) next at g = by_test_lem (found_is u n k rs (suc r.number) (at + r.length) (and_r (follows_of next at r) _ g)) (eqb r.number u) refl
  where
    by_test_lem : found_in (pass n k u (or_else (find u rs) no_record)) ≡ find u rs → (b : Bool) → eqb r.number u ≡ b
        → found_in (pass n k u (or_else (cond (eqb r.number u) (Some r) (find u rs)) no_record)) ≡ cond (eqb r.number u) (Some r) (find u rs)
    by_test_lem ih true e =
        let is : u ≡ r.number = sym (eqb-true r.number u e) in
        rw (e, ne_eqb r.code 0 (known next at r (and_l _ (good (suc r.number) (at + r.length) rs) g)))
        (ap (λ (m : ℕ). Some (record { number = m; code = r.code; start = r.start; length = r.length })) is)
    by_test_lem ih false e = rw e ih

-- ---- and over others

never : (at : ℕ) (r : FileRecord) → follows_of 65535 at r ≡ false
unfolding follows_of
never at r = by_test_lem (leb 65535 r.number) refl
  where
    by_test_lem : (b : Bool) → leb 65535 r.number ≡ b → (leb 65535 r.number && leb r.number 255 && eqb r.start at && whole_of r.code r.length) ≡ false
    by_test_lem true e = rw (e, lt-leb r.number 255 (omega (arith, leb-true 65535 r.number e)))
    by_test_lem false e = rw e

stays_lost : (u : ℕ) (rs : List FileRecord) (at : ℕ) (q : FileRecord) → concluded_of (folded passed_of rs (pass 65535 at u q)) ≡ lost_of u
unfolding folded concluded_of
stays_lost u [] at q = refl
stays_lost u (r ∷ rs) at q = ap (λ (s : Pass). concluded_of (folded passed_of rs s)) (step_off u 65535 at q r (never at r)) ∙ stays_lost u rs at q

fails : (u : ℕ) (rs : List FileRecord) (next at : ℕ) (q : FileRecord) → good next at rs ≡ false → concluded_of (folded passed_of rs (pass next at u q)) ≡ lost_of u
unfolding folded good
fails u [] next at q g = absurd (false≢true (sym g))
fails u (r ∷ rs) next at q g = by_test_lem (fails u rs (suc r.number) (at + r.length) (cond (eqb r.number u) r q)) (follows_of next at r) refl g
  where
    by_test_lem : (good (suc r.number) (at + r.length) rs ≡ false → concluded_of (folded passed_of rs (pass (suc r.number) (at + r.length) u (cond (eqb r.number u) r q))) ≡ lost_of u)
        → (b : Bool) → follows_of next at r ≡ b → (follows_of next at r && good (suc r.number) (at + r.length) rs) ≡ false → concluded_of (folded passed_of rs (passed_of (pass next at u q) r)) ≡ lost_of u
    by_test_lem ih true e h = rw (step_on u next at q r e) (ih (rw e at h))
    by_test_lem ih false e h = rw (step_off u next at q r e) (stays_lost u rs at q)

-- ---- the definition

-- over records, of which there is one
told : (u : ℕ) (rs : List FileRecord) → 0 < length rs → concluded_of (folded passed_of rs (pass 0 0 u no_record)) ≡ cond (good_table rs) (told_of u rs) (lost_of u)
unfolding good_table told_of concluded_of
told u rs l = by_good (good 0 0 rs) refl
  where
    is : (ltb 0 (length rs) && every good_record rs && ascend 0 rs && end_to_end 0 rs && leb (total rs) 65535) ≡ (good 0 0 rs && leb (total rs) 65535)
    is = rw (lt-ltb 0 (length rs) l, good_is rs 0 0)

    by_good : (b : Bool) → good 0 0 rs ≡ b → concluded_of (folded passed_of rs (pass 0 0 u no_record))
        ≡ cond (ltb 0 (length rs) && every good_record rs && ascend 0 rs && end_to_end 0 rs && leb (total rs) 65535) (told_of u rs) (lost_of u)
    by_good true e =
        rw (passes u rs 0 0 no_record e, is, e, zero-add (total rs), le-leb (after 0 rs) 256 (last_small rs 0 0 e (omega arith)), one_more rs l)
        (ap (λ (x : Option FileRecord). cond (leb (total rs) 65535) (seen (suc (last_number 0 rs)) (total rs) u x) (lost_of u)) (found_is u (suc (last_number 0 rs)) (total rs) rs 0 0 e))
    by_good false e = rw (is, e) (fails u rs 0 0 no_record e)

empty : (ts : List FileRecord) → length ts ≡ 0 → good_table ts ≡ false
unfolding good_table
empty ts e = rw e

abbrev Goal : List FileRecord → ℕ → ℕ → Type 0
Goal ys n u =
    concluded_of (folded passed_of (take n ys) (pass (cond (ltb 0 n && leb n (length ys)) 0 65535) 0 u no_record))
    ≡ cond (leb n (length ys) && good_table (take n ys)) (told_of u (take n ys)) (lost_of u)

pub survey_right : (ys : List FileRecord) (n u : ℕ) → concluded_of (folded passed_of (take n ys) (begun_of n (length ys) u)) ≡ survey_of ys n u
unfolding begun_of first_number survey_of
survey_right ys n u = by_count (leb n (length ys)) refl
  where
    by_first : (b : Bool) → ltb 0 n ≡ b → leb n (length ys) ≡ true → Goal ys n u
    by_first true e h =
        let len : length (take n ys) ≡ n = length-take-le n ys (leb-true n (length ys) h) in
        rw (e, h) (told u (take n ys) (subst (λ (k : ℕ). 0 < k) (sym len) (ltb-true 0 n e)))
    by_first false e h =
        let z : n ≤ 0 = ltb-false 0 n e in
        let len : length (take n ys) ≡ 0 = length-take-le n ys (leb-true n (length ys) h) ∙ omega arith in
        rw (e, h, empty (take n ys) len) (stays_lost u (take n ys) 0 no_record)

    by_count : (b : Bool) → leb n (length ys) ≡ b → Goal ys n u
    by_count true e = by_first (ltb 0 n) refl e
    by_count false e = rw (e, no_more (ltb 0 n)) (stays_lost u (take n ys) 0 no_record)

-- ---- the pass, record by record

-- the records that are surveyed: the first n, or all that there are
pub first_rows : (ys : List FileRecord) (n : ℕ) {m : ℕ} → m ≡ min n (length ys) → take m ys ≡ take n ys
first_rows ys n {m} e = go (leb n (length ys)) refl
  where
    go : (b : Bool) → leb n (length ys) ≡ b → take m ys ≡ take n ys
    go true t = let l : n ≤ length ys = leb-true n (length ys) t in let p : m ≡ n = omega arith in rw p
    go false t =
        let l : length ys < n = leb-false n (length ys) t in
        let a : length ys ≤ m = omega arith in
        let b : length ys ≤ n = omega arith in
        take_all m ys a ∙ sym (take_all n ys b)

module _ {X : Type 0} (f : X → FileRecord → X) (rs : List FileRecord) (i : ℕ) (d : X) where
  -- to take the record at i is to go on from the next
  pub sees : i < length rs → folded f (drop (i + 1) rs) (f d (get_or rs i no_record)) ≡ folded f (drop i rs) d
  unfolding folded
  sees l = ap (λ (k : ℕ). folded f (drop k rs) (f d (get_or rs i no_record))) (add-one i) ∙ sym (ap (λ (t : List FileRecord). folded f t d) (drop-cons rs i no_record l))

  pub at_end_lem : length rs ≤ i → folded f (drop i rs) d ≡ d
  unfolding folded
  at_end_lem g = rw (drop_of_length-le rs g)
