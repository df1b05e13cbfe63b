-- A table's rule, by one test that is computed over all of its places.
use Prim.Native.Nat.{ℕ, zero, suc, ◌<◌}
use mathlib.Core.Path.{◌≡◌, refl, sym, subst}
use mathlib.Core.Bool.{Bool, true, false, ◌&&◌}
use mathlib.Core.Logic.{⊎_elim}
use native.Mathlib.Omega.{arith}
use native.Mathlib.Nat.{eq-or-lt_of_le, le_of_suc-le-suc, not-suc-le-zero}

-- the test passes at each place below n
abbrev pub every_below : (ℕ → Bool) → ℕ → Bool
every_below test zero = true
every_below test (suc n) = test n && every_below test n

pub both : (a b : Bool) → (a && b) ≡ true → (a ≡ true) × (b ≡ true)
both true b e = (refl, e)
both false b e = let z : ◌≡◌ {A = ℕ} 0 1 = cc in absurd (omega arith)

pub at_place : (test : ℕ → Bool) (n : ℕ) → every_below test n ≡ true → (i : ℕ) → i < n → test i ≡ true
at_place test zero e i h = absurd (not-suc-le-zero h)
at_place test (suc n) e i h =
    let b : (test n ≡ true) × (every_below test n ≡ true) = both (test n) (every_below test n) e in
    ⊎_elim (λ (q : i ≡ n). subst (λ (k : ℕ). test k ≡ true) (sym q) b.0) (λ (m : i < n). at_place test n b.1 i m) (eq-or-lt_of_le (le_of_suc-le-suc h))
