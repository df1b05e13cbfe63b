-- Laws of numbers as bytes, over the width.
use Prim.Native.Nat.{ℕ, zero, suc, ◌+◌, ◌-◌, ◌*◌, ◌/◌, ◌%◌, ◌^◌, ◌≤◌, ◌<◌}
use mathlib.Core.Path.{◌≡◌, refl, ap, sym, ◌∙◌}
use mathlib.Core.List.{List, [], ◌∷◌, ◌++◌}
use native.Mathlib.Nat.{div-lt_iff_lt-mul, pow-suc, mul_comm, mul_assoc}
use native.Mathlib.Numerals.{add-one}
use native.Mathlib.Omega.{arith}
use lib.Dec.{lit≤}
use lib.ListN.{length, take, drop, get_or, replicate, length-drop, drop_of_length-le}
use lib.Seq.{drop-cons, drop-drop, take-add, take_all, take-nil, length-take-le}
use Rattle.base.specs.Numbers.{low_first, number}

pub low_length : (k n : ℕ) → length (low_first k n) ≡ k
unfolding low_first
low_length zero n = refl
low_length (suc k) n = ap suc (low_length k (n / 256))

-- THE FACT over the width: a number of k bytes is read back as it was written
pub read_back : (k n : ℕ) → n < 256 ^ k → number (low_first k n) ≡ n
unfolding low_first number
read_back zero n h = omega arith
read_back (suc k) n h =
    let g : n / 256 < 256 ^ k = (div-lt_iff_lt-mul (lit≤ tt)).1 (rw pow-suc at h) in
    omega (arith, read_back k (n / 256) g)

-- the first of the bytes that are left
pub low_next : (k i n : ℕ) → i < k → low_first (k - i) n ≡ n % 256 ∷ low_first (k - (i + 1)) (n / 256)
unfolding low_first
low_next k i n h = let e : k - i ≡ suc (k - (i + 1)) = omega arith in rw e

pub low_none : (k i n : ℕ) → k ≤ i → low_first (k - i) n ≡ []
unfolding low_first
low_none k i n h = let e : k - i ≡ 0 = omega arith in rw e

-- the number of bytes that are in two parts
pub number_append : (s t : List ℕ) → number (s ++ t) ≡ number s + 256 ^ length s * number t
unfolding number
number_append [] t = omega arith
number_append (b ∷ s) t =
    let e : 256 ^ suc (length s) * number t ≡ 256 * (256 ^ length s * number t) = rw pow-suc (rw (mul_comm (256 ^ length s) 256) (mul_assoc 256 (256 ^ length s) (number t))) in
    omega (arith, number_append s t, e)

pub number_less : (s : List ℕ) → ((i : ℕ) → get_or s i 0 < 256) → number s < 256 ^ length s
unfolding number
number_less [] f = lit≤ tt
number_less (b ∷ s) f = rw pow-suc (omega (arith, f 0, number_less s (λ i. f (suc i))))

-- a word at a place, by how many of its bytes are there
module _ (s : List ℕ) (at : ℕ) where
  pub none_there : (k : ℕ) → length s ≤ at → 0 ≡ number (take k (drop at s))
  unfolding number
  none_there k h = rw (drop_of_length-le s h, take-nil k)

  one : at < length s → length s - at < 2 → drop at s ≡ get_or s at 0 ∷ []
  one h g = let e : length s ≤ suc at = omega arith in drop-cons s at 0 h ∙ ap (λ (l : List ℕ). get_or s at 0 ∷ l) (drop_of_length-le s e)

  pub one_there : (k a : ℕ) → 1 ≤ k → a ≡ get_or s at 0 → at < length s → length s - at < 2 → a ≡ number (take k (drop at s))
  unfolding number
  one_there k a p e h g = rw (one h g, take_all k (get_or s at 0 ∷ []) p) (omega arith)

  pub word_there : (a b : ℕ) → a ≡ get_or s at 0 → b ≡ get_or s (at + 1) 0 → at < length s → 2 ≤ length s - at → a + 256 * b ≡ number (take 2 (drop at s))
  unfolding number
  word_there a b e f h g =
      let n : suc at < length s = omega arith in
      rw (drop-cons s at 0, drop-cons s (suc at) 0 n) (let x : b ≡ get_or s (suc at) 0 = rw add-one at f in omega arith)

  -- a number of i + j bytes from its two parts
  parts_there : (i j : ℕ) → i ≤ length s - at → number (take i (drop at s)) + 256 ^ i * number (take j (drop (at + i) s)) ≡ number (take (i + j) (drop at s))
  parts_there i j h =
      let n : length (take i (drop at s)) ≡ i = length-take-le i (drop at s) (simp length-drop (omega arith)) in
      sym (ap number (take-add i j (drop at s)) ∙ number_append (take i (drop at s)) (take j (drop i (drop at s))) ∙ rw (n, drop-drop i at s))

  pub long_there : (a b : ℕ) → a ≡ number (take 2 (drop at s)) → b ≡ number (take 2 (drop (at + 2) s)) → 2 ≤ length s - at → a + 65536 * b ≡ number (take 4 (drop at s))
  long_there a b e f h = rw (e, f) (parts_there 2 2 h)

  -- where a word is cut, so is the long
  pub short_there : (a : ℕ) → a ≡ number (take 2 (drop at s)) → length s - at < 2 → a ≡ number (take 4 (drop at s))
  short_there a e h =
      let n : length (drop at s) ≤ 2 = simp length-drop (omega arith) in
      let m : length (drop at s) ≤ 4 = omega arith in
      e ∙ ap number (take_all 2 (drop at s) n ∙ sym (take_all 4 (drop at s) m))

-- the bytes of 0
pub low_zero : (k : ℕ) → low_first k 0 ≡ replicate k 0
unfolding low_first
low_zero zero = refl
low_zero (suc k) = ap (λ (l : List ℕ). 0 ∷ l) (low_zero k)
