-- What is written is read back.
use Rattle.std.specs.Prelude.{Some}
use Prim.Native.Nat.{ℕ, zero, suc, ◌+◌, ◌*◌, ◌-◌, ◌/◌, ◌%◌, ◌≤◌, ◌<◌}
use mathlib.Core.Path.{◌≡◌, refl, ap, ◌∙◌}
use mathlib.Core.List.{List, [], ◌∷◌}
use mathlib.Core.Bool.{Bool, true, false, cond}
use native.Mathlib.Omega.{arith}
use lib.Dec.{ltb}
use lib.ListN.{length}
use borrow.Author.Tests.{le-leb, ltb-true}
use Rattle.decimal.specs.Decimals.{decimal_before, decimal, number_from, number_of}

one_back : (n d : ℕ) (s : List ℕ) → d < 10 → number_from n ((48 + d) ∷ s) ≡ number_from (n * 10 + d) s
unfolding number_from
one_back n d s h =
    let e : 48 + d - 48 ≡ d = omega arith in
    rw (le-leb 48 (48 + d) (omega arith), le-leb (48 + d) 57 (omega arith), e)

before_back : (k n : ℕ) (s : List ℕ) → n ≤ k → number_from 0 (decimal_before k n s) ≡ number_from n s
unfolding decimal_before
before_back zero n s h = let x : 0 * 10 + n ≡ n = omega arith in one_back 0 n s (omega arith) ∙ ap (λ (m : ℕ). number_from m s) x
before_back (suc k) n s h = go (ltb n 10) refl (before_back k (n / 10) ((48 + n % 10) ∷ s) (omega arith))
  where
    go : (t : Bool) → ltb n 10 ≡ t → number_from 0 (decimal_before k (n / 10) ((48 + n % 10) ∷ s)) ≡ number_from (n / 10) ((48 + n % 10) ∷ s) → number_from 0 (cond t ((48 + n) ∷ s) (decimal_before k (n / 10) ((48 + n % 10) ∷ s))) ≡ number_from n s
    go true e g = let x : 0 * 10 + n ≡ n = omega arith in one_back 0 n s (ltb-true n 10 e) ∙ ap (λ (m : ℕ). number_from m s) x
    go false e g =
        let x : n / 10 * 10 + n % 10 ≡ n = omega arith in
        g ∙ one_back (n / 10) (n % 10) s (omega arith) ∙ ap (λ (m : ℕ). number_from m s) x

some_digit : (k n : ℕ) (s : List ℕ) → 0 < length (decimal_before k n s)
unfolding decimal_before
some_digit zero n s = omega arith
some_digit (suc k) n s = go (ltb n 10) (some_digit k (n / 10) ((48 + n % 10) ∷ s))
  where
    go : (t : Bool) → 0 < length (decimal_before k (n / 10) ((48 + n % 10) ∷ s)) → 0 < length (cond t ((48 + n) ∷ s) (decimal_before k (n / 10) ((48 + n % 10) ∷ s)))
    go true h = omega arith
    go false h = h

of_some : (l : List ℕ) → 0 < length l → number_of l ≡ number_from 0 l
unfolding number_of
of_some [] h = absurd (omega arith)
of_some (c ∷ l) h = refl

pub decimal_back : (n : ℕ) → number_of (decimal n) ≡ Some n
unfolding decimal number_from
decimal_back n = of_some (decimal_before n n []) (some_digit n n []) ∙ before_back n n [] (omega arith)
