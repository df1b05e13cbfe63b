-- Laws of whole numbers in two's complement, over the width.
use Prim.Native.Nat.{ℕ, suc, ◌-◌, ◌*◌, ◌^◌, ◌≤◌, ◌<◌}
use mathlib.Core.Path.{◌≡◌, refl, sym, subst, ◌∙◌}
use mathlib.Core.Bool.{Bool, true, false}
use native.Mathlib.Omega.{arith}
use borrow.Author.Tests.{ltb-false, le-ltb, le-leb, lt-leb, ltb-true}
use lib.Dec.{T, leb, ltb}
use lib.IntN.{ℤ, pos, negsuc, nat_abs, ◌-ℤ◌}
use lib.Signed.{lt_z, non_neg}
use mir.Syntax.{Width, w16, w32, w64}
use mir.Val.{Fits, SFits, bits, hbits, to_z, of_z}
use mir.ValLaws.{to_z_pos, to_z-of_z}
use Rattle.element_whole.specs.declared.Parted.{Parted}
use Rattle.element_whole.specs.Whole.{signed, joined}

-- −1 less a number: n and −(n + 1) change places
minus_neg : (m : ℕ) → negsuc 0 -ℤ negsuc m ≡ pos m
minus_neg m =
    let t : ltb (suc m) 1 ≡ false = le-ltb (suc m) 1 (omega arith) in
    let e : suc m - 1 ≡ m = omega arith in
    rw (t, e)

-- ---- a word or a long, read signed
signed_as : (w : Width) (ones n : ℕ) → suc ones ≡ 2 * 2 ^ hbits w → suc ones ≡ 2 ^ bits w → n ≤ ones → to_z w n ≡ signed ones n
signed_as w ones n half full h = go (ltb n (2 ^ hbits w)) refl
  where
    go : (t : Bool) → ltb n (2 ^ hbits w) ≡ t → to_z w n ≡ signed ones n
    go true t =
        let a : n < 2 ^ hbits w = ltb-true n (2 ^ hbits w) t in
        let b : leb (2 * n) ones ≡ true = le-leb (2 * n) ones (omega arith) in
        rw (t, b)
    go false t =
        let a : 2 ^ hbits w ≤ n = ltb-false n (2 ^ hbits w) t in
        let b : leb (2 * n) ones ≡ false = lt-leb (2 * n) ones (omega arith) in
        let e : 2 ^ bits w - suc n ≡ ones - n = omega arith in
        rw (t, b, e)

pub word_signed : (n : ℕ) → n < 65536 → to_z w16 n ≡ signed 0xFFFF n
word_signed n h = signed_as w16 0xFFFF n refl refl (omega arith)

pub long_signed : (n : ℕ) → n < 4294967296 → to_z w32 n ≡ signed 0xFFFFFFFF n
long_signed n h = signed_as w32 0xFFFFFFFF n refl refl (omega arith)

-- ---- a number's sign and size
-- `x` is a number that a 64-bit number can be cast to without loss, and `n` is what `f` makes of it
pub record Cast (x n : ℤ) (f : ℕ → ℤ) : Type 0 where
  pub fits : SFits w64 x
  pub cast : T (non_neg (to_z w64 (of_z w64 x))) × Fits w64 (nat_abs (to_z w64 (of_z w64 x)))
  pub same : n ≡ f (nat_abs (to_z w64 (of_z w64 x)))

cast_pos : (m : ℕ) (f : ℕ → ℤ) → m < 2 ^ 63 → Cast (pos m) (f m) f
cast_pos m f h =
    let e : to_z w64 m ≡ pos m = to_z_pos w64 m h in record {
      fits = record { sfits = h };
      cast = rw e (tt, record { fits = omega arith });
      same = rw e;
    }

negative : (n : ℤ) → SFits w64 n → lt_z n (pos 0) ≡ true → Cast (negsuc 0 -ℤ n) n negsuc
negative (pos m) g t = let z : m < 0 = ltb-true m 0 t in absurd (omega arith)
negative (negsuc m) g t = subst (λ (x : ℤ). Cast x (negsuc m) negsuc) (sym (minus_neg m)) (cast_pos m negsuc g.sfits)

positive : (n : ℤ) → SFits w64 n → lt_z n (pos 0) ≡ false → Cast n n pos
positive (pos m) g t = cast_pos m pos g.sfits
positive (negsuc m) g t = let z : ◌≡◌ {A = ℕ} 0 1 = cc in absurd (omega arith)

module _ (n : ℤ) (g : SFits w64 n) where
  pub part_negative : lt_z (to_z w64 (of_z w64 n)) (pos 0) ≡ true → Cast (negsuc 0 -ℤ to_z w64 (of_z w64 n)) n negsuc
  part_negative = subst (λ (x : ℤ). lt_z x (pos 0) ≡ true → Cast (negsuc 0 -ℤ x) n negsuc) (sym (to_z-of_z w64 n g)) (negative n g)

  pub part_positive : lt_z (to_z w64 (of_z w64 n)) (pos 0) ≡ false → Cast n n pos
  part_positive = subst (λ (x : ℤ). lt_z x (pos 0) ≡ false → Cast n n pos) (sym (to_z-of_z w64 n g)) (positive n g)

-- a signed number is handed on as its bits, and read again
pub same : (n : ℤ) (p : Parted) → SFits w64 n → to_z w64 (of_z w64 n) ≡ joined p → n ≡ joined p
same n p f e = sym (to_z-of_z w64 n f) ∙ e
