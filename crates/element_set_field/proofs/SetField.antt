-- Laws of setting a number or a field.
use borrow.Author.Tests.{ne_eqb}
use Prim.Native.Nat.{ℕ, suc, ◌+◌, ◌-◌, ◌≤◌}
use mathlib.Core.Path.{◌≡◌, refl, sym, subst, ◌∙◌}
use mathlib.Core.Bool.{Bool, true, cond}
use mathlib.Core.List.{List}
use native.Mathlib.Omega.{arith}
use lib.Dec.{eqb}
use lib.IntN.{ℤ, pos, negsuc}
use lib.ListN.{length, take, drop}
use mir.Syntax.{w64}
use mir.Val.{SFits, to_z, of_z}
use Rattle.base.specs.Numbers.{low_first, number}
use Rattle.base.specs.Masks.{mix, bit_mask}
use Rattle.base.specs.Put.{Puts}
use Rattle.base.proofs.Numbers.{low_length}
use Rattle.file_type.specs.declared.Field.{Field}
use Rattle.file_type.specs.declared.Field.TheVariants as field
use Rattle.std.specs.Prelude.{Option, Some, Result, Ok}
use Rattle.base.specs.declared.refusal.Refusal.{Refusal}
use Rattle.element_spec.specs.Encode.{Stores, of_bytes, whole_at, bit_of, field_of}
use Rattle.element_spec.proofs.ElementStores.{a_store, all_there, is_in, read_again}
use Rattle.element_whole.specs.Whole.{in_range, twos, bits_of, is_zero}

-- ---- `put_whole`
module _ (at k ones low high : ℕ) (n : ℤ) (l : List ℕ) (r : Option ℕ) (f : SFits w64 n) (e : r ≡ bits_of ones low high (to_z w64 (of_z w64 n))) where
  here : r ≡ bits_of ones low high n
  here = read_again n f (λ (x : ℤ). r ≡ bits_of ones low high x) e

  module _ (a : at ≤ length l) (h : k ≤ length l - at) where
    pub whole_in : (b : ℕ) {p : ℕ} {m : List ℕ} → r ≡ Some b → Puts l at (low_first k b) p m → Stores (of_bytes (at + k) l (whole_at at k ones low high n)) l (Ok tt) m
    whole_in b {p} {m} g w =
        let i : (in_range low high n ≡ true) × (twos ones n ≡ b) = is_in ones low high n b (sym here ∙ g) in
        all_there (at + k) l _ (omega arith) (a_store (rw (i.0, i.1)) w (omega (arith, low_length k b)))

-- ---- one field
zero_bits : (n : ℤ) → SFits w64 n → eqb (of_z w64 n) 0 ≡ is_zero n
unfolding is_zero
zero_bits (pos n) g = refl
zero_bits (negsuc n) g = ne_eqb (18446744073709551616 - suc n) 0 (λ e. omega (arith, g.sfits))

pub bit_stored : {l m : List ℕ} {r : ℕ} (b : ℕ) (clear : Bool) (mask old value word : ℕ) → mask ≡ bit_mask b → old ≡ number (take 2 (drop 0 l)) → value ≡ cond clear 0 mask → word ≡ mix 0xFFFF mask old value → 2 ≤ length l → Puts l 0 (low_first 2 word) r m → Stores (bit_of b clear l) l (Ok tt) m
bit_stored {l} {m} {r} b clear mask old value word em eo ev ew h w = a_store (rw (sym em, sym eo, sym ev, sym ew)) w (omega (arith, low_length 2 word))

module _ (f : Field) (n : ℤ) (l : List ℕ) (g : SFits w64 n) {r : Result (Unit {0}) Refusal} {m : List ℕ} where
  pub field_bit : (i : ℕ) (clear : Bool) → f ≡ field.Bit i → clear ≡ eqb (of_z w64 n) 0 → Stores (bit_of (15 - i) clear l) l r m → Stores (field_of (Some f) n l) l r m
  field_bit i clear e c w = rw e (subst (λ (t : Bool). Stores (bit_of (15 - i) t l) l r m) (c ∙ zero_bits n g) w)
