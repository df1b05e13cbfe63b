-- What a `match` on a number leaves to its last case.
use Prim.Native.Nat.{ℕ}
use mathlib.Core.Path.{◌≡◌}
use mathlib.Core.List.{List, [], ◌∷◌}

module _ {A : Type 0} (key : A → ℕ) where
  -- a number that is the key of none of these, beside what else is known
  abbrev pub NoneOf : Type 0 → List A → ℕ → Type 0
  NoneOf X [] n = X
  NoneOf X (x ∷ xs) n = NoneOf (X × (n ≡ key x → ⊥)) xs n

  -- the same, one by one from the first on
  abbrev pub Unlike : List A → ℕ → Type 0
  Unlike [] n = Unit {0}
  Unlike (x ∷ xs) n = (n ≡ key x → ⊥) × Unlike xs n

  one_by_one : (X : Type 0) (xs : List A) (n : ℕ) → NoneOf X xs n → X × Unlike xs n
  one_by_one X [] n h = (h, tt)
  one_by_one X (x ∷ xs) n h = let r = one_by_one (X × (n ≡ key x → ⊥)) xs n h in (r.0.0, (r.0.1, r.1))

  pub unlike : (xs : List A) (n : ℕ) → NoneOf (Unit {0}) xs n → Unlike xs n
  unlike xs n h = (one_by_one (Unit {0}) xs n h).1
