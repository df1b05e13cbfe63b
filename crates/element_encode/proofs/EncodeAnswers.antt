-- Laws of setting an element, by the kind of value, and of three words.
use Prim.Native.Nat.{ℕ, ◌≤◌}
use mathlib.Core.Path.{◌≡◌, refl, subst}
use mathlib.Core.List.{List, ◌++◌, append_assoc}
use native.Mathlib.Omega.{arith}
use lib.IntN.{ℤ}
use lib.ListN.{length, length-append}
use mir.Syntax.{w64}
use mir.Val.{SFits, to_z, of_z}
use Rattle.base.specs.Numbers.{low_first}
use Rattle.base.specs.Outcome.{Outcome}
use Rattle.base.specs.Put.{Wrote, Puts}
use Rattle.base.proofs.Numbers.{low_length}
use Rattle.base.proofs.Put.{and_then, wrote_length, puts_wrote}
use Rattle.std.specs.Prelude.{Result, Ok}
use Rattle.base.specs.declared.refusal.Refusal.{Refusal}
use Rattle.element_spec.specs.declared.Value.{Value}
use Rattle.element_spec.specs.declared.Value.TheVariants as value
use Rattle.element_spec.specs.Encode.{Stores, float_of, on_fields}
use Rattle.element_spec.proofs.ElementStores.{a_store, read_again}

-- ---- by the kind of value
module _ (v : Value) (f : ℤ → ℤ → ℤ → Outcome) (g : ℤ → Outcome) (l : List ℕ) {r : Result (Unit {0}) Refusal} {m : List ℕ} where
  pub on_words : (x y z : ℤ) → v ≡ value.Words x y z → SFits w64 x → SFits w64 y → SFits w64 z → Stores (f (to_z w64 (of_z w64 x)) (to_z w64 (of_z w64 y)) (to_z w64 (of_z w64 z))) l r m → Stores (on_fields v f g) l r m
  on_words x y z e p q s w =
      rw e (read_again x p (λ (a : ℤ). Stores (f a y z) l r m)
      (read_again y q (λ (a : ℤ). Stores (f (to_z w64 (of_z w64 x)) a z) l r m)
      (read_again z s (λ (a : ℤ). Stores (f (to_z w64 (of_z w64 x)) (to_z w64 (of_z w64 y)) a) l r m) w)))

-- ---- float bits
module _ {l m : List ℕ} {r : ℕ} where
  pub float_stored : (b : ℕ) → Puts l 0 (low_first 4 b) r m → 4 ≤ length l → Stores (float_of b) l (Ok tt) m
  float_stored b w h = a_store refl w (omega (arith, low_length 4 b))

-- ---- three words
pub words_laid : {l m₁ m₂ m₃ : List ℕ} {p q r : ℕ} (a b c : ℕ) → 6 ≤ length l → Puts l 0 (low_first 2 a) p m₁ → Puts m₁ p (low_first 2 b) q m₂ → Puts m₂ q (low_first 2 c) r m₃ → Wrote l 0 (low_first 2 a ++ (low_first 2 b ++ low_first 2 c)) r m₃
words_laid {l} {m₁} {m₂} {m₃} {p} {q} {r} a b c h x y z =
    let na : length (low_first 2 a) ≡ 2 = low_length 2 a in
    let nb : length (low_first 2 b) ≡ 2 = low_length 2 b in
    let nc : length (low_first 2 c) ≡ 2 = low_length 2 c in
    let u : Wrote l 0 (low_first 2 a) p m₁ = puts_wrote x (omega arith) in
    let n₁ : length m₁ ≡ length l = wrote_length u (omega arith) in
    let v : Wrote m₁ p (low_first 2 b) q m₂ = puts_wrote y (omega (arith, u.end)) in
    let n₂ : length m₂ ≡ length m₁ = wrote_length v (omega (arith, u.end)) in
    let w : Wrote m₂ q (low_first 2 c) r m₃ = puts_wrote z (omega (arith, u.end, v.end)) in
    let both : Wrote l 0 (low_first 2 a ++ low_first 2 b) q m₂ = and_then u v (omega arith) in
    let n₃ : length (low_first 2 a ++ low_first 2 b) ≡ 4 = rw (length-append, na, nb) in
    subst (λ (s : List ℕ). Wrote l 0 s r m₃) (append_assoc (low_first 2 a) (low_first 2 b) (low_first 2 c)) (and_then both w (omega arith))
