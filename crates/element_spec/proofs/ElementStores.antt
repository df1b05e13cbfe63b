-- Laws of setting an element: refusals, bytes that were laid, a number's bits.
use Prim.Native.Nat.{ℕ, ◌+◌, ◌≤◌, ◌<◌}
use mathlib.Core.Path.{◌≡◌, refl, sym, subst}
use mathlib.Core.Bool.{Bool, true, false, cond}
use mathlib.Core.List.{List}
use borrow.Author.Tests.{lt-ltb, le-ltb}
use lib.IntN.{ℤ}
use lib.ListN.{length}
use mir.Syntax.{w64}
use mir.Val.{SFits, to_z, of_z}
use mir.ValLaws.{to_z-of_z}
use Rattle.base.specs.Outcome.{Outcome, refused, lays}
use Rattle.base.proofs.Put.{puts_wrote}
use Rattle.base.specs.Put.{Puts}
use Rattle.base.specs.declared.refusal.Refusal.{Refusal}
use Rattle.base.specs.declared.refusal.Refusal.TheVariants.{NoSuchElement}
use Rattle.std.specs.Prelude.{Some, None, Result, Ok, Err}
use Rattle.element_spec.specs.Encode.{Stores, of_bytes}
use Rattle.element_whole.specs.Whole.{in_range, twos, bits_of}

-- a refusal, and bytes that were laid
pub no_store : (n : Refusal) (l : List ℕ) {o : Outcome} → o ≡ refused n → Stores o l (Err n) l
no_store n l {o} e = subst (λ (x : Outcome). Stores x l (Err n) l) (sym e) (record { answer = refl; memory = refl })

pub a_store : {l m : List ℕ} {at r : ℕ} {bs : List ℕ} {o : Outcome} → o ≡ lays at bs → Puts l at bs r m → at + length bs ≤ length l → Stores o l (Ok tt) m
a_store {l} {m} e w h = subst (λ (x : Outcome). Stores x l (Ok tt) m) (sym e) (record { answer = refl; memory = (puts_wrote w h).now })

-- 19, and what comes behind it
module _ (n : ℕ) (l : List ℕ) (o : Outcome) where
  pub too_few : length l < n → Stores (of_bytes n l o) l (Err NoSuchElement) l
  too_few h = no_store NoSuchElement l (rw (lt-ltb (length l) n h))

  pub all_there : n ≤ length l → {r : Result (Unit {0}) Refusal} {m : List ℕ} → Stores o l r m → Stores (of_bytes n l o) l r m
  all_there h w = rw (le-ltb (length l) n h) w

-- ---- the bits of a number
module _ (ones low high : ℕ) (n : ℤ) where
  pub is_in : (b : ℕ) → bits_of ones low high n ≡ Some b → (in_range low high n ≡ true) × (twos ones n ≡ b)
  unfolding bits_of
  is_in b = go (in_range low high n)
    where
      go : (t : Bool) → cond t (Some (twos ones n)) None ≡ Some b → (t ≡ true) × (twos ones n ≡ b)
      go true e = (refl, cc)
      go false e = cc

-- a signed number is handed on as its bits, and read again
module _ (n : ℤ) (f : SFits w64 n) where
  pub read_again : (P : ℤ → Type 0) → P (to_z w64 (of_z w64 n)) → P n
  read_again P p = subst P (to_z-of_z w64 n f) p
