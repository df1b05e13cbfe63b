-- Laws of reading text.
use Prim.Native.Nat.{ℕ, ◌≤◌}
use mathlib.Core.Path.{◌≡◌, refl}
use mathlib.Core.List.{List, [], ◌∷◌}
use mathlib.Core.Bool.{false}
use native.Mathlib.Omega.{arith}
use borrow.Author.Tests.{le-ltb}
use lib.Dec.{ltb}
use lib.ListN.{length, take, get_or}
use Rattle.std.specs.Prelude.{Ok}
use Rattle.base.specs.Put.{Puts}
use Rattle.base.proofs.Put.{puts_wrote}
use Rattle.element_text.specs.Text.{swap_pairs}
use Rattle.element_spec.specs.declared.Element.TheVariants as element
use Rattle.element_spec.specs.Decode.{text_in, Reads}

pub text_put : (s l : List ℕ) {r : ℕ} {m : List ℕ} → 82 ≤ length l → length s ≤ 82 → Puts l 0 s r m → Reads (text_in (length l) s) l (Ok (element.Text (length s))) m
text_put s l h g w =
    let t : ltb (length l) 82 ≡ false = le-ltb (length l) 82 h in
    rw t (record { answer = refl; memory = (puts_wrote w (omega arith)).now })

pub first_two : (e : List ℕ) → 2 ≤ length e → get_or e 1 0 ∷ get_or e 0 0 ∷ [] ≡ swap_pairs (take 2 e)
unfolding swap_pairs
first_two [] h = absurd (omega arith)
first_two (a ∷ []) h = absurd (omega arith)
first_two (a ∷ b ∷ e) h = refl
