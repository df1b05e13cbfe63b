-- What was set is read back: the one fact over the width, at words and at longs.
use Prim.Native.Nat.{ℕ, suc, ◌-◌, ◌*◌, ◌^◌, ◌≤◌, ◌<◌}
use mathlib.Core.Path.{◌≡◌, refl, ap, ◌∙◌}
use mathlib.Core.Bool.{true, false}
use mathlib.Core.List.{List}
use native.Mathlib.Omega.{arith}
use borrow.Author.Tests.{le-leb, lt-leb, leb-true, ltb-true}
use lib.Dec.{leb}
use lib.IntN.{ℤ, pos, negsuc}
use lib.ListN.{length, take}
use Rattle.base.specs.Numbers.{low_first, number}
use Rattle.base.specs.Put.{put}
use Rattle.base.proofs.Numbers.{low_length, read_back}
use Rattle.base.proofs.Put.{put_first}
use Rattle.element_whole.specs.Whole.{in_range, twos, signed}
use Rattle.element_spec.specs.declared.kind.ElementKind.TheVariants as kind
use Rattle.file_type.specs.declared.FileType.{FileType}
use Rattle.element_spec.specs.Decode.{decode_as, whole}

module _ (k ones half : ℕ) (w : suc ones ≡ 256 ^ k) (h : suc ones ≡ 2 * half) where
  -- a number from −half to half − 1, in k bytes, low byte first
  back : (z : ℤ) → in_range half (half - 1) z ≡ true → signed ones (number (low_first k (twos ones z))) ≡ z
  back (pos n) t =
      let g : n ≤ half - 1 = leb-true n (half - 1) t in
      let b : leb (2 * n) ones ≡ true = le-leb (2 * n) ones (omega arith) in
      rw (read_back k n (omega arith), b)
  back (negsuc n) t =
      let g : n < half = ltb-true n half t in
      let b : leb (2 * (ones - n)) ones ≡ false = lt-leb (2 * (ones - n)) ones (omega arith) in
      let e : ones - (ones - n) ≡ n = omega arith in
      rw (read_back k (ones - n) (omega arith), b, e)

  pub stored_back : (z : ℤ) (bytes : List ℕ) → k ≤ length bytes → in_range half (half - 1) z ≡ true → signed ones (number (take k (put bytes 0 (low_first k (twos ones z))))) ≡ z
  stored_back z bytes g t =
      ap (λ (s : List ℕ). signed ones (number s)) (put_first bytes (low_first k (twos ones z)) k (low_length k (twos ones z)) g) ∙ back z t

-- a word −32768 to 32767, and a long, set in an element and read from it
pub word_back : (t : FileType) (z : ℤ) (bytes : List ℕ) (room : ℕ) → 2 ≤ length bytes → in_range 32768 32767 z ≡ true → decode_as kind.Word t (put bytes 0 (low_first 2 (twos 0xFFFF z))) room ≡ whole z
word_back t z bytes room g e = ap whole (stored_back 2 0xFFFF 32768 refl refl z bytes g e)

pub long_back : (t : FileType) (z : ℤ) (bytes : List ℕ) (room : ℕ) → 4 ≤ length bytes → in_range 2147483648 2147483647 z ≡ true → decode_as kind.Long t (put bytes 0 (low_first 4 (twos 0xFFFFFFFF z))) room ≡ whole z
long_back t z bytes room g e = ap whole (stored_back 4 0xFFFFFFFF 2147483648 refl refl z bytes g e)
