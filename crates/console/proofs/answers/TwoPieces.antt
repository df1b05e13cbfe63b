-- Laws of text that is laid piece by piece.
use Prim.Native.Nat.{ℕ}
use mathlib.Core.Path.{◌≡◌, refl, ap, ◌∙◌}
use mathlib.Core.List.{List, [], ◌∷◌}
use native.Mathlib.Omega.{arith}
use lib.ListN.{length}
use Rattle.base.specs.Chars.{bytes}
use Rattle.base.specs.Put.{Laid, put_of, Puts}
use Rattle.text.specs.Hex.{hex}
use Rattle.console.specs.AnswerLines.{byte_string}
use Rattle.console.specs.Pieces.{PutsTwo}

pub two_laid : {l m n : List ℕ} {at r s : ℕ} {a b : List ℕ} → Puts l at a r m → Puts m r b s n → PutsTwo l at a b s n
two_laid {l} {m} {n} {at} {r} {s} {a} {b} p q = record { is = q.is ∙ ap (λ (x : Laid). put_of x.memory x.end b) p.is }

module _ {l m : List ℕ} {at r : ℕ} where
  pub dash : (x : List ℕ) → length x ≡ 0 → Puts l at (bytes "-") r m → Puts l at (byte_string x) r m
  unfolding byte_string
  dash [] h p = p
  dash (b ∷ x) h p = absurd (omega arith)

  pub digits : (x : List ℕ) → (length x ≡ 0 → ⊥) → Puts l at (hex x) r m → Puts l at (byte_string x) r m
  unfolding byte_string
  digits [] h p = absurd (h refl)
  digits (b ∷ x) h p = p
