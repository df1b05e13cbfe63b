-- What the steps of the survey give, return by return.
use Prim.Native.Nat.{ℕ, ◌+◌, ◌-◌, ◌%◌, ◌<◌, ◌≤◌}
use mathlib.Core.Path.{◌≡◌, refl, sym, ap, ◌∙◌}
use mathlib.Core.Bool.{Bool, true, false, not, ◌&&◌, ◌||◌}
use mathlib.Core.Logic.{◌⊎◌, inl, inr}
use native.Mathlib.Omega.{arith}
use mir.Syntax.{w16, w32}
use mir.Val.{Fits}
use borrow.Author.Tests.{leb-true, eqb-true, not-false, le-leb, lt-leb, ne_eqb}
use lib.Dec.{leb, ltb, eqb}
use Rattle.base.proofs.EveryPlace.{every_below, at_place}
use Rattle.file_type.specs.Table.{of_code, element_size}
use Rattle.processor_spec.specs.declared.FileRecord.{FileRecord}
use Rattle.processor_spec.specs.State.{known_code}
use Rattle.processor_spec.proofs.Tests.{and_l, and_r, or_r}
use Rattle.processor_table.specs.declared.Pass.{Pass}
use Rattle.processor_table.specs.SurveySteps.{whole_of, follows_of}

-- ---- `whole`

-- so many codes from `low` on have this element size
abbrev Sized : ℕ → ℕ → ℕ → Type 0
Sized low k size = every_below (λ (i : ℕ). eqb (element_size (low + i)) size) k ≡ true

module _ (low k size : ℕ) (s : Sized low k size) (c n : ℕ) (l : low ≤ c) (u : c < low + k) where
  size_is : element_size c ≡ size
  size_is =
      let e : c ≡ low + (c - low) = omega arith in
      ap element_size e ∙ eqb-true _ _ (at_place (λ (i : ℕ). eqb (element_size (low + i)) size) k s (c - low) (omega arith))

  whole_by : ltb 0 size ≡ true → eqb (n % size) 0 ≡ whole_of c n
  unfolding whole_of known_code
  whole_by p = rw (size_is, p)

module _ (c n : ℕ) where
  pub whole_two : 0x82 ≤ c → c ≤ 0x85 → eqb (n % 2) 0 ≡ whole_of c n
  unfolding element_size of_code
  whole_two l u = whole_by 0x82 4 2 refl c n l (omega arith) refl

  pub whole_six : 0x86 ≤ c → c ≤ 0x88 → eqb (n % 6) 0 ≡ whole_of c n
  unfolding element_size of_code
  whole_six l u = whole_by 0x86 3 6 refl c n l (omega arith) refl

  pub whole_word : (c ≡ 0x89) ⊎ (c ≡ 0x8E) → eqb (n % 2) 0 ≡ whole_of c n
  unfolding element_size of_code
  whole_word (inl e) = whole_by 0x89 1 2 refl c n (omega arith) (omega arith) refl
  whole_word (inr e) = whole_by 0x8E 1 2 refl c n (omega arith) (omega arith) refl

  pub whole_long : (c ≡ 0x8A) ⊎ (c ≡ 0x91) → eqb (n % 4) 0 ≡ whole_of c n
  unfolding element_size of_code
  whole_long (inl e) = whole_by 0x8A 1 4 refl c n (omega arith) (omega arith) refl
  whole_long (inr e) = whole_by 0x91 1 4 refl c n (omega arith) (omega arith) refl

  pub whole_st : c ≡ 0x8D → eqb (n % 84) 0 ≡ whole_of c n
  unfolding element_size of_code
  whole_st e = whole_by 0x8D 1 84 refl c n (omega arith) (omega arith) refl

  -- one of the twelve
  abbrev Listed : ℕ → Bool
  Listed k = (leb 0x82 k && leb k 0x88) || (eqb k 0x89 || (eqb k 0x8A || (eqb k 0x8D || (eqb k 0x8E || eqb k 0x91))))

  unknown : c < 256 → Listed c ≡ false → false ≡ whole_of c n
  unfolding whole_of known_code element_size of_code
  unknown b e =
      let t : (Listed c || eqb (element_size c) 0) ≡ true = at_place (λ (k : ℕ). Listed k || eqb (element_size k) 0) 256 refl c b in
      let z : element_size c ≡ 0 = eqb-true _ _ (or_r (Listed c) _ t e) in
      rw z

  pub whole_low : c < 0x82 → false ≡ whole_of c n
  whole_low l =
      unknown (omega arith)
      (simp (lt-leb 0x82 c l, ne_eqb c 0x89 (λ e. omega arith), ne_eqb c 0x8A (λ e. omega arith), ne_eqb c 0x8D (λ e. omega arith), ne_eqb c 0x8E (λ e. omega arith), ne_eqb c 0x91 (λ e. omega arith)))

  pub whole_high : c < 256 → 0x88 < c → (c ≡ 0x89 → ⊥) → (c ≡ 0x8A → ⊥) → (c ≡ 0x8D → ⊥) → (c ≡ 0x8E → ⊥) → (c ≡ 0x91 → ⊥) → false ≡ whole_of c n
  whole_high b l n₁ n₂ n₃ n₄ n₅ =
      unknown b (simp (le-leb 0x82 c (omega arith), lt-leb c 0x88 l, ne_eqb c 0x89 n₁, ne_eqb c 0x8A n₂, ne_eqb c 0x8D n₃, ne_eqb c 0x8E n₄, ne_eqb c 0x91 n₅))

-- ---- `follows`
module _ (next at : ℕ) (r : FileRecord) (h : follows_of next at r ≡ true) where
  pub follows_255 : leb r.number 255 ≡ true
  unfolding follows_of
  follows_255 = search (and_l, and_r)

  pub follows_at : r.start ≡ at
  unfolding follows_of
  follows_at = let e : eqb r.start at ≡ true = search (and_l, and_r) in eqb-true r.start at e

-- ---- `passed`
abbrev of : ℕ → ℕ → ℕ → ℕ → FileRecord
of number code start length = record { number = number; code = code; start = start; length = length }

module _ (s : Pass) (number code start length : ℕ) (b : Bool) (f : b ≡ follows_of s.next s.total (of number code start length)) where
  abbrev r : FileRecord
  r = of number code start length

  module _ (n : not b ≡ false) where
    pub number_fits : Fits w16 (number + 1)
    number_fits = record { fits = omega (arith, leb-true number 255 (follows_255 s.next s.total r (sym f ∙ not-false b n))) }

    -- a record that follows begins where the total is: below 65,536
    pub total_fits : start < 65536 → length < 65536 → Fits w32 (s.total + length)
    total_fits t l = record { fits = omega (arith, follows_at s.next s.total r (sym f ∙ not-false b n)) }
