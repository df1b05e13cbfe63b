-- The directory: its length, its size as a word, and its bytes.
use Prim.Native.Nat.{ℕ, zero, suc, ◌+◌, ◌-◌, ◌*◌, ◌/◌, ◌%◌, ◌≤◌, ◌<◌, ◌^◌}
use mathlib.Core.Path.{◌≡◌, refl, sym, ap, subst, ◌∙◌}
use mathlib.Core.Bool.{Bool, true, false, ◌&&◌}
use mathlib.Core.List.{List, [], ◌∷◌, ◌++◌}
use native.Mathlib.Nat.{mul-le-mul}
use native.Mathlib.Omega.{arith}
use borrow.Author.Tests.{leb-true, le-leb, lt-leb, eq-eqb, ne_eqb}
use lib.Dec.{leb, eqb}
use lib.ListN.{length, take, drop, replicate}
use lib.Seq.{length-take-le, take_all}
use Rattle.base.specs.Numbers.{low_first}
use Rattle.element_text.specs.Text.{fitted}
use Rattle.processor_spec.specs.declared.Done.{Done}
use Rattle.processor_spec.specs.declared.Slc.{Slc}
use Rattle.processor_spec.proofs.Tests.{and_l, and_r}
use Rattle.processor_query.specs.declared.Layout.{Layout}
use Rattle.processor_query.specs.declared.Query.{Query}
use Rattle.processor_table.specs.declared.Seen.{Seen}
use Rattle.processor_refinement.specs.StepsBySurvey.{Answers, tells, tells_bad, size_asked, directory_length, size_bytes, part_step, directory_step}

-- ---- the length
pub rows_small : (a b : ℕ) → a < 2 ^ 16 → b < 2 ^ 8 → a * b ≤ 65535 * 255
rows_small a b h k = let l : a ≤ 65535 = omega arith in let j : b ≤ 255 = omega arith in mul-le-mul {n₂ = 65535} l j

-- ---- the size element
module _ (q : Query) (l : Layout) where
  module _ (ok : Bool) (t : ok ≡ true) (e : ok ≡ size_asked q l) where
    in_range_lem : (leb 2 q.size && leb q.size 8) ≡ true
    unfolding size_asked
    in_range_lem = and_r (eqb q.element l.size_element) _ (sym e ∙ t)

    pub size_low : 2 ≤ q.size
    size_low = leb-true 2 q.size (and_l _ _ in_range_lem)

    pub size_high : q.size ≤ 8
    size_high = leb-true q.size 8 (and_r (leb 2 q.size) _ in_range_lem)

take_same : (j n : ℕ) → j ≤ n → take {A = ℕ} j (replicate n 0) ≡ replicate j 0
take_same zero n h = refl
take_same (suc j) zero h = absurd (omega arith)
take_same (suc j) (suc n) h = ap (λ (l : List ℕ). 0 ∷ l) (take_same j n (omega arith))

module _ (n size : ℕ) (h : (2 ≤ size) × (size ≤ 8)) (k : ℕ) (ek : k ≡ size) where
  abbrev eight : List ℕ
  eight = n % 256 ∷ n / 256 % 256 ∷ 0 ∷ 0 ∷ 0 ∷ 0 ∷ 0 ∷ 0 ∷ []

  pub eight_length : k ≡ length (take k eight)
  eight_length = let l : k ≤ 8 = omega (arith, h.1) in sym (length-take-le k eight l)

  pub eight_small : length (take k eight) ≤ 255
  eight_small = rw (← eight_length) (omega (arith, h.1))

  eight_is : take k eight ≡ size_bytes n size
  unfolding size_bytes fitted low_first
  eight_is =
      let e : size ≡ suc (suc (size - 2)) = omega (arith, h.0) in
      let t : take {A = ℕ} (size - 2) (replicate 6 0) ≡ replicate (size - 2) 0 = take_same (size - 2) 6 (omega (arith, h.1)) in
      let l : (size - 2) ≡ size - length (low_first 2 n) = refl in
      let a : take k eight ≡ n % 256 ∷ n / 256 % 256 ∷ take (size - 2) (replicate 6 0) = ap (λ (j : ℕ). take j eight) (ek ∙ e) in
      let b : take size (n % 256 ∷ n / 256 % 256 ∷ []) ≡ n % 256 ∷ n / 256 % 256 ∷ [] = take_all size (n % 256 ∷ n / 256 % 256 ∷ []) h.0 in
      a ∙ ap (λ (x : List ℕ). n % 256 ∷ n / 256 % 256 ∷ x) t ∙ ap (λ (x : List ℕ). x ++ replicate (size - 2) 0) (sym b)

  pub size_told : (slc : Slc) (c reply reply' : List ℕ) (r : Done) → Answers (tells c 0 (take k eight)) slc [] reply r reply' → Answers (tells c 0 (size_bytes n size)) slc [] reply r reply'
  size_told slc c reply reply' r a = subst (λ (x : List ℕ). Answers (tells c 0 x) slc [] reply r reply') eight_is a

-- ---- what a command for the directory does
module _ (slc : Slc) (q : Query) (n : ℕ) (d c reply reply' : List ℕ) (r : Done) (x y : ℕ) (ex : x ≡ q.element) (ey : y ≡ q.size) where
  pub part_past : n < 2 * x + y → Answers (tells_bad c) slc [] reply r reply' → Answers (part_step q n d c) slc [] reply r reply'
  unfolding part_step
  part_past l a = rw (sym ex, sym ey, lt-leb (2 * x + y) n l) a

  pub part_there : (bs : List ℕ) → 2 * x + y ≤ n → bs ≡ take y (drop (2 * x) d) → Answers (tells c 0 bs) slc [] reply r reply'
      → Answers (part_step q n d c) slc [] reply r reply'
  unfolding part_step
  part_there bs l g a = rw (sym ex, sym ey, le-leb (2 * x + y) n l, ← g) a

module _ (slc : Slc) (s : Seen) (q : Query) (l : Layout) (d c reply reply' : List ℕ) (r : Done) where
  pub list_other : (q.code ≡ l.code → ⊥) → Answers (tells_bad c) slc [] reply r reply' → Answers (directory_step s q l d c) slc [] reply r reply'
  unfolding directory_step
  list_other ne a = rw (ne_eqb q.code l.code ne) a

  module _ (e : q.code ≡ l.code) (n : ℕ) (en : n ≡ directory_length s l) (ok : Bool) (eo : ok ≡ size_asked q l) where
    pub list_size : (k : ℕ) → k ≡ l.constant → ok ≡ true → Answers (tells c 0 (size_bytes (n + k) q.size)) slc [] reply r reply' → Answers (directory_step s q l d c) slc [] reply r reply'
    unfolding directory_step
    list_size k f t a = rw (eq-eqb q.code l.code e, ← eo, ← en, t, ← f) a

    pub list_bytes : ok ≡ false → Answers (part_step q n d c) slc [] reply r reply' → Answers (directory_step s q l d c) slc [] reply r reply'
    unfolding directory_step
    list_bytes t a = rw (eq-eqb q.code l.code e, ← eo, ← en, t) a
