-- Laws of decimal text.
use Rattle.std.specs.Prelude.{Option, None, Some, option_and_then}
use Prim.Native.Nat.{ℕ, zero, suc, ◌+◌, ◌*◌, ◌-◌, ◌/◌, ◌%◌, ◌^◌, ◌≤◌, ◌<◌}
use mathlib.Core.Path.{◌≡◌, refl, ap, sym, subst, ◌∙◌}
use mathlib.Core.List.{List, [], ◌∷◌}
use mathlib.Core.Bool.{Bool, true, false, cond}
use native.Mathlib.Nat.{div-lt_iff_lt-mul, pow-suc}
use native.Mathlib.Omega.{arith}
use lib.Dec.{ltb, lit≤}
use lib.ListN.{length, take, drop, get_or, set, length-set, length-drop, drop_of_length-le}
use lib.Seq.{drop-cons, take_all, drop-set-lt, get_or-set_same}
use borrow.Author.Tests.{lt-ltb, le-ltb, ltb-true, ltb-false}
use Rattle.base.specs.Put.{Puts}
use Rattle.base.proofs.Parts.{drop_next}
use Rattle.decimal.specs.Decimals.{decimal_before, decimal, is_digit, number_from, number_of, unsigned_of}

-- ---- the digits of a number, from the last
-- more than enough digits change nothing
enough : (k j n : ℕ) (s : List ℕ) → n ≤ k → n ≤ j → decimal_before k n s ≡ decimal_before j n s
unfolding decimal_before
enough zero zero n s h g = refl
enough zero (suc j) n s h g = rw (lt-ltb n 10 (omega arith))
enough (suc k) zero n s h g = rw (lt-ltb n 10 (omega arith))
enough (suc k) (suc j) n s h g =
    ap (λ (x : List ℕ). cond (ltb n 10) ((48 + n) ∷ s) x) (enough k j (n / 10) ((48 + n % 10) ∷ s) (omega arith) (omega arith))

last : (n : ℕ) (s : List ℕ) → n < 10 → decimal_before n n s ≡ (48 + n) ∷ s
unfolding decimal_before
last zero s h = refl
last (suc n) s h = rw (lt-ltb (suc n) 10 h)

more : (n : ℕ) (s : List ℕ) → 10 ≤ n → decimal_before n n s ≡ decimal_before (n / 10) (n / 10) ((48 + n % 10) ∷ s)
unfolding decimal_before
more zero s h = absurd (omega arith)
more (suc n) s h =
    rw (le-ltb (suc n) 10 h) (enough n (suc n / 10) (suc n / 10) ((48 + suc n % 10) ∷ s) (omega arith) (omega arith))

-- what a store puts in front of what stands behind it
drop_set : (l : List ℕ) (i v : ℕ) → 0 < i → i ≤ length l → drop (i - 1) (set l (i - 1) v) ≡ v ∷ drop i l
drop_set l zero v p h = absurd (omega arith)
drop_set l (suc i) v p h =
    let e : suc i - 1 ≡ i = omega arith in
    let w : i < length (set l i v) = simp length-set (omega arith) in
    rw e (drop-cons (set l i v) i 0 w ∙ rw (get_or-set_same l i v 0 (omega arith), drop-set-lt (suc i) l i v (omega arith)))

-- a number of two digits has more than one place
two_places : (i n : ℕ) → n < 10 ^ i → 10 ≤ n → 1 < i
two_places zero n h g = absurd (omega arith)
two_places (suc zero) n h g = absurd (omega arith)
two_places (suc (suc i)) n h g = omega arith

-- a turn of the loop that stores the digits from the last, at i of 20 places
module _ (i n m : ℕ) (l : List ℕ) (p : 0 < i) (g : i ≤ 20) (len : length l ≡ 20) (e : decimal_before n n (drop i l) ≡ decimal m) where
  pub decimal_places : 10 ≤ n → n < 10 ^ i → 0 < i - 1
  decimal_places h f = omega (arith, two_places i n f h)

  pub decimal_fewer : n < 10 ^ i → n / 10 < 10 ^ (i - 1)
  decimal_fewer f = go i p f
    where
      go : (j : ℕ) → 0 < j → n < 10 ^ j → n / 10 < 10 ^ (j - 1)
      go zero q f = absurd (omega arith)
      go (suc j) q f = let k : suc j - 1 ≡ j = omega arith in rw k ((div-lt_iff_lt-mul (lit≤ tt)).1 (rw pow-suc at f))

  pub decimal_turn : 10 ≤ n → decimal_before (n / 10) (n / 10) (drop (i - 1) (set l (i - 1) (48 + n % 10))) ≡ decimal m
  decimal_turn h =
      ap (decimal_before (n / 10) (n / 10)) (drop_set l i (48 + n % 10) p (omega arith)) ∙ sym (more n (drop i l) h) ∙ e

  decimal_done : n < 10 → drop (i - 1) (set l (i - 1) (48 + n)) ≡ decimal m
  decimal_done h = drop_set l i (48 + n) p (omega arith) ∙ sym (last n (drop i l) h) ∙ e

  -- the digits that were stored are lent as a part
  pub decimal_puts : {out out' : List ℕ} {at r : ℕ} → n < 10 → Puts out at (take (20 - (i - 1)) (drop (i - 1) (set l (i - 1) (48 + n)))) r out' → Puts out at (decimal m) r out'
  decimal_puts {out} {out'} {at} {r} h w =
      let k : length (drop (i - 1) (set l (i - 1) (48 + n))) ≤ 20 - (i - 1) = simp (length-drop, length-set) (omega arith) in
      subst (λ (y : List ℕ). Puts out at y r out') (take_all (20 - (i - 1)) (drop (i - 1) (set l (i - 1) (48 + n))) k ∙ decimal_done h) w

pub decimal_start : (n : ℕ) → decimal_before n n [] ≡ decimal n
unfolding decimal
decimal_start n = refl

-- how many digits there are at most
before_length : (k n : ℕ) (s : List ℕ) → n < 10 ^ suc k → length (decimal_before n n s) ≤ suc k + length s
before_length zero n s h = rw (last n s h) (omega arith)
before_length (suc k) n s h =
    go (ltb n 10) refl (before_length k (n / 10) ((48 + n % 10) ∷ s) ((div-lt_iff_lt-mul (lit≤ tt)).1 (rw pow-suc at h)))
  where
    go : (t : Bool) → ltb n 10 ≡ t → length (decimal_before (n / 10) (n / 10) ((48 + n % 10) ∷ s)) ≤ suc k + suc (length s) → length (decimal_before n n s) ≤ suc (suc k) + length s
    go true e h = rw (last n s (ltb-true n 10 e)) (omega arith)
    go false e h = rw (more n s (ltb-false n 10 e)) (omega arith)

pub decimal_length : (k n : ℕ) → n < 10 ^ suc k → length (decimal n) ≤ suc k
unfolding decimal
decimal_length k n h = omega (arith, before_length k n [] h)

-- ---- a number, digit by digit
-- what is too large stays so
too_large : (n : ℕ) (s : List ℕ) → 18446744073709551616 ≤ n → unsigned_of (number_from n s) ≡ None
unfolding number_from unsigned_of
too_large n [] h = rw (le-ltb n 18446744073709551616 h)
too_large n (c ∷ s) h = go (is_digit c) (too_large (n * 10 + (c - 48)) s (omega arith))
  where
    go : (t : Bool) → unsigned_of (number_from (n * 10 + (c - 48)) s) ≡ None → unsigned_of (cond t (number_from (n * 10 + (c - 48)) s) None) ≡ None
    go true e = e
    go false e = refl

-- the first digit stops it, or makes the number that the others stand behind
digit_first : (n c : ℕ) (s : List ℕ) → unsigned_of (number_from n (c ∷ s)) ≡ option_and_then (λ m. unsigned_of (number_from m s)) (unsigned_of (number_from n (c ∷ [])))
unfolding number_from unsigned_of
digit_first n c s = go (is_digit c)
  where
    over : (x : ℕ) (t : Bool) → ltb x 18446744073709551616 ≡ t → unsigned_of (number_from x s) ≡ option_and_then (λ m. unsigned_of (number_from m s)) (cond t (Some x) None)
    over x true e = refl
    over x false e = too_large x s (ltb-false _ _ e)

    go : (t : Bool) → unsigned_of (cond t (number_from (n * 10 + (c - 48)) s) None) ≡ option_and_then (λ m. unsigned_of (number_from m s)) (unsigned_of (cond t (Some (n * 10 + (c - 48))) None))
    go true = over (n * 10 + (c - 48)) _ refl
    go false = refl

pub number_empty : (s : List ℕ) → length s ≡ 0 → None ≡ unsigned_of (number_of s)
unfolding number_of unsigned_of
number_empty [] h = refl
number_empty (c ∷ s) h = absurd (omega arith)

pub number_start : (s : List ℕ) → (length s ≡ 0 → ⊥) → unsigned_of (number_from 0 s) ≡ unsigned_of (number_of s)
unfolding number_of
number_start [] h = absurd (h refl)
number_start (c ∷ s) h = refl

pub number_step : (s : List ℕ) (n i : ℕ) (a : Option ℕ) → i < length s → a ≡ unsigned_of (number_from n (get_or s i 0 ∷ [])) → unsigned_of (number_from n (drop i s)) ≡ option_and_then (λ m. unsigned_of (number_from m (drop (i + 1) s))) a
number_step s n i a h f = rw (drop_next s i h, f) (digit_first n (get_or s i 0) (drop (i + 1) s))

pub number_done : (s : List ℕ) (n i : ℕ) → length s ≤ i → n < 18446744073709551616 → Some n ≡ unsigned_of (number_from n (drop i s))
unfolding number_from unsigned_of
number_done s n i h g = rw (drop_of_length-le s h, lt-ltb n 18446744073709551616 g)

pub ruleset numbers = (number_empty, number_start, number_step)
