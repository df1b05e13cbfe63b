-- Laws of texts compared.
use Prim.Native.Nat.{ℕ, suc, ◌+◌, ◌-◌, ◌≤◌, ◌<◌}
use mathlib.Core.Path.{◌≡◌, refl, ap, sym, ◌∙◌}
use mathlib.Core.List.{List, [], ◌∷◌}
use mathlib.Core.Bool.{Bool, true, false, not, ◌&&◌}
use native.Mathlib.Omega.{arith}
use borrow.Author.Tests.{eq-eqb, ne_eqb, lt-leb, le-leb, not-false}
use lib.Dec.{eqb}
use lib.ListN.{length, drop, get_or, drop_of_length-le}
use Rattle.base.specs.Chars.{letter, spelled}
use Rattle.base.proofs.Parts.{drop_next}

module _ (any_case : Bool) where
  -- texts of unequal length
  pub spelled_short : (name s : List ℕ) → (length s ≡ length name → ⊥) → false ≡ spelled any_case name s
  unfolding spelled
  spelled_short [] [] h = absurd (h refl)
  spelled_short [] (b ∷ s) h = refl
  spelled_short (a ∷ name) [] h = refl
  spelled_short (a ∷ name) (b ∷ s) h = go (eqb (letter any_case b) a) (spelled_short name s (λ e. h (ap suc e)))
    where
      go : (t : Bool) → false ≡ spelled any_case name s → false ≡ (t && spelled any_case name s)
      go true e = e
      go false e = refl

  module _ (name s : List ℕ) (i : ℕ) where
    spelled_step : i < length name → i < length s → spelled any_case (drop i name) (drop i s) ≡ (eqb (letter any_case (get_or s i 0)) (get_or name i 0) && spelled any_case (drop (i + 1) name) (drop (i + 1) s))
    unfolding spelled
    spelled_step h k = rw (drop_next name i h, drop_next s i k)

    -- what is left decides; at its end it is spelled, a byte that differs ends it, and one that agrees leads on
    module _ (e : length s ≡ length name) (inv : spelled any_case (drop i name) (drop i s) ≡ spelled any_case name s) where
      pub spelled_end : length name ≤ i → true ≡ spelled any_case name s
      unfolding spelled
      spelled_end h = let k : length s ≤ i = omega arith in rw (drop_of_length-le name h, drop_of_length-le s k) at inv

      pub spelled_off : (b : ℕ) → i < length name → b ≡ letter any_case (get_or s i 0) → (b ≡ get_or name i 0 → ⊥) → false ≡ spelled any_case name s
      spelled_off b h g n =
          let k : i < length s = omega arith in
          let x : eqb (letter any_case (get_or s i 0)) (get_or name i 0) ≡ false = ne_eqb _ _ (λ (y : letter any_case (get_or s i 0) ≡ get_or name i 0). n (g ∙ y)) in
          sym (ap (λ (t : Bool). t && spelled any_case (drop (i + 1) name) (drop (i + 1) s)) x) ∙ sym (spelled_step h k) ∙ inv

      pub spelled_on : (b : ℕ) → i < length name → b ≡ letter any_case (get_or s i 0) → b ≡ get_or name i 0 → spelled any_case (drop (i + 1) name) (drop (i + 1) s) ≡ spelled any_case name s
      spelled_on b h g n =
          let k : i < length s = omega arith in
          let x : eqb (letter any_case (get_or s i 0)) (get_or name i 0) ≡ true = eq-eqb _ _ (sym g ∙ n) in
          sym (ap (λ (t : Bool). t && spelled any_case (drop (i + 1) name) (drop (i + 1) s)) x) ∙ sym (spelled_step h k) ∙ inv

-- a byte as it is compared
module _ (any_case : Bool) (b : ℕ) where
  pub letter_low : not any_case ≡ false → b < 97 → b ≡ letter any_case b
  letter_low e h = rw (not-false any_case e, lt-leb 97 b h)

  pub letter_high : not any_case ≡ false → 122 < b → b ≡ letter any_case b
  letter_high e h = let k : 97 ≤ b = omega arith in rw (not-false any_case e, le-leb 97 b k, lt-leb b 122 h)

  pub letter_small : not any_case ≡ false → 97 ≤ b → b ≤ 122 → b - 32 ≡ letter any_case b
  letter_small e h k = rw (not-false any_case e, le-leb 97 b h, le-leb b 122 k)
