-- What lines are: laws of the definition.
use Prim.Native.Nat.{ℕ}
use mathlib.Core.Bool.{Bool, true, false, not, ◌&&◌, cond}
use mathlib.Core.Path.{◌≡◌, refl, ap}
use mathlib.Core.List.{List, [], ◌∷◌, ◌++◌}
use native.Mathlib.Omega.{arith}
use lib.Dec.{eqb}
use borrow.Author.Tests.{ne_eqb}
use Rattle.text.specs.Line.{before}
use Rattle.tags_line.specs.Lines.{lines}

-- no byte is a newline
unfoldable pub unbroken : List ℕ → Bool
unbroken [] = true
unbroken (b ∷ l) = not (eqb b 10) && unbroken l

none : (a b : Bool) → (not a && b) ≡ true → (a ≡ false) × (b ≡ true)
none true b e = absurd (let z : ◌≡◌ {A = ℕ} 0 1 = cc in omega arith)
none false b e = (refl, e)

-- what stands in front of a newline is a line, whatever its bytes are
pub line_first : (l s : List ℕ) → unbroken l ≡ true → lines (l ++ (10 ∷ s)) ≡ l ∷ lines s
unfolding lines unbroken before
line_first [] s h = refl
line_first (b ∷ l) s h =
    let k = none (eqb b 10) (unbroken l) h in
    rw k.0 (ap (before b) (line_first l s k.1))

-- and so is what stands behind the last one
pub line_last : (b : ℕ) (l : List ℕ) → unbroken (b ∷ l) ≡ true → lines (b ∷ l) ≡ (b ∷ l) ∷ []
unfolding lines unbroken before
line_last b [] h = rw (none (eqb b 10) true h).0
line_last b (c ∷ l) h =
    let k = none (eqb b 10) (unbroken (c ∷ l)) h in
    rw k.0 (ap (before b) (line_last c l k.1))

-- "a missing last newline doesn't"
pub newline_missing : (s : List ℕ) (b : ℕ) → (b ≡ 10 → ⊥) → lines (s ++ (b ∷ [])) ≡ lines (s ++ (b ∷ 10 ∷ []))
unfolding lines before
newline_missing [] b h = rw (ne_eqb b 10 h)
newline_missing (c ∷ s) b h = ap (λ (ls : List (List ℕ)). cond (eqb c 10) ([] ∷ ls) (before c ls)) (newline_missing s b h)
