-- Laws of masks.
use Prim.Native.Nat.{ℕ, zero, suc, ◌^◌, ◌≤◌, ◌<◌}
use mathlib.Core.Path.{◌≡◌, refl, sym, ◌∙◌}
use mathlib.Core.Bool.{Bool, true}
use mathlib.Core.List.{List, [], ◌∷◌}
use mathlib.Core.Logic.{⊎_elim}
use native.Mathlib.Nat.{eq-or-lt_of_le}
use native.Mathlib.Omega.{arith}
use lib.Dec.{eqb}
use lib.ListN.{get_or}
use borrow.Author.Tests.{lt-ltb, le-ltb, eqb-true}
use Rattle.base.specs.Masks.{bit_mask}
use Rattle.base.proofs.EveryPlace.{every_below, at_place}

-- the sixteen cases of `bit_mask`
abbrev masks : List ℕ
masks = 0x0001 ∷ 0x0002 ∷ 0x0004 ∷ 0x0008 ∷ 0x0010 ∷ 0x0020 ∷ 0x0040 ∷ 0x0080 ∷ 0x0100 ∷ 0x0200 ∷ 0x0400 ∷ 0x0800 ∷ 0x1000 ∷ 0x2000 ∷ 0x4000 ∷ 0x8000 ∷ []

-- each is 2 to the power of its bit, by one test of them all
abbrev is_power : ℕ → Bool
is_power b = eqb (get_or masks b 0) (2 ^ b)

powers : every_below is_power 16 ≡ true
powers = refl

pub mask_there : (k : ℕ) {b m : ℕ} → b ≡ k → k < 16 → m ≡ get_or masks k 0 → m ≡ bit_mask b
mask_there k g h e = e ∙ eqb-true (get_or masks k 0) (2 ^ k) (at_place is_power 16 powers k h) ∙ rw (g, lt-ltb k 16 h)

-- a number that is none of those below n, as a `match` leaves it
abbrev pub NoneBelow : ℕ → ℕ → Type 0
NoneBelow zero b = Unit {0}
NoneBelow (suc n) b = NoneBelow n b × (b ≡ n → ⊥)

past : (n b : ℕ) → NoneBelow n b → n ≤ b
past zero b h = omega arith
past (suc n) b h = ⊎_elim (λ (e : n ≡ b). absurd (h.1 (sym e))) (λ (g : n < b). g) (eq-or-lt_of_le (past n b h.0))

pub mask_none : (b : ℕ) → NoneBelow 16 b → 0 ≡ bit_mask b
mask_none b h = rw (le-ltb b 16 (past 16 b h))
