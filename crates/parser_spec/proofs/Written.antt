-- What was written is read back: a law for each part.
use Rattle.std.specs.Prelude.{Option, None, Some}
use Prim.Native.Nat.{ℕ, suc, ◌≤◌, ◌<◌}
use mathlib.Core.Path.{◌≡◌, refl, ap, ◌∙◌}
use mathlib.Core.List.{List, [], ◌∷◌, ◌++◌}
use mathlib.Core.Bool.{Bool, true, false, cond}
use native.Mathlib.Omega.{arith}
use borrow.Author.Tests.{eq-eqb, le-leb, lt-ltb}
use lib.ListN.{length}
use lib.Seq.{take-append_seam, drop-append_seam}
use Rattle.parser_spec.specs.DecimalNumbers.{is_digit, digit_run, number_of}
use Rattle.parser_spec.specs.Parts.{Part, then, ended, whole, at_end, here, any_byte, one, byte, numeral, digits, digits_in, after_byte, count_number, count_of}

-- ---- one part behind another
module _ {A B : Type 0} {x : Option (A × List ℕ)} (k : A → Part B) where
  pub behind_same : {y : Option (A × List ℕ)} → x ≡ y → then x k ≡ then y k
  behind_same e = ap (λ (z : Option (A × List ℕ)). then z k) e

  pub step : {a : A} {s : List ℕ} → x ≡ Some (a, s) → then x k ≡ k a s
  unfolding then
  step e = behind_same e

  pub stop : x ≡ None → then x k ≡ None
  unfolding then
  stop e = behind_same e

module _ {A : Type 0} where
  pub whole_read : (p : Part A) (s : List ℕ) (a : A) → p s ≡ Some (a, []) → whole p s ≡ Some a
  unfolding whole ended at_end
  whole_read p s a e = rw e

  pub after_read : (v : ℕ) (p : Part A) (a : A) (t : List ℕ) {s : List ℕ} → byte v t ≡ Some (tt, s) → after_byte v p a t ≡ p s
  unfolding after_byte
  after_read v p a t e = rw e

  pub after_absent : (v : ℕ) (p : Part A) (a : A) (s : List ℕ) → byte v s ≡ None → after_byte v p a s ≡ Some (a, s)
  unfolding after_byte
  after_absent v p a s e = rw e

-- ---- a test, one byte or character
pub passed : (t : Bool) (s : List ℕ) → t ≡ true → here t s ≡ Some (tt, s)
unfolding here
passed t s e = rw e

pub one_read : (char : Part ℕ) (test : ℕ → Bool) (x : ℕ) {s r : List ℕ} → char s ≡ Some (x, r) → test x ≡ true → one char test s ≡ Some (tt, r)
unfolding one then here
one_read char test x e h = rw (e, h)

pub byte_read : (v : ℕ) (r : List ℕ) → byte v (v ∷ r) ≡ Some (tt, r)
unfolding byte any_byte
byte_read v r = one_read any_byte _ v refl (eq-eqb v v refl)

-- ---- numbers: digits `d` with no digit behind them
pub run_read : (d r : List ℕ) → digit_run d ≡ length d → digit_run r ≡ 0 → digit_run (d ++ r) ≡ length d
unfolding digit_run
run_read [] r e z = z
run_read (b ∷ d) r e z = go (is_digit b) (λ (h : digit_run d ≡ length d). run_read d r h z) e
  where
    go : (t : Bool) → (digit_run d ≡ length d → digit_run (d ++ r) ≡ length d) → cond t (suc (digit_run d)) 0 ≡ suc (length d) → cond t (suc (digit_run (d ++ r))) 0 ≡ suc (length d)
    go true f e = ap suc (f (omega arith))
    go false f e = absurd (omega arith)

module _ (d r : List ℕ) (e : digit_run d ≡ length d) (h : 0 < length d) (z : digit_run r ≡ 0) where
  pub numeral_read : numeral (d ++ r) ≡ Some (number_of d, r)
  unfolding numeral
  numeral_read = rw (run_read d r e z, lt-ltb 0 (length d) h, take-append_seam d r, drop-append_seam d r)

  module _ (max : ℕ) (l : length d ≤ max) where
    pub digits_read : digits max (d ++ r) ≡ Some (number_of d, r)
    unfolding digits
    digits_read = rw (run_read d r e z, le-leb (length d) max l) numeral_read

    pub in_read : (low high : ℕ) → low ≤ number_of d → number_of d ≤ high → digits_in max low high (d ++ r) ≡ Some (number_of d, r)
    unfolding digits_in then here
    in_read low high a b = rw (digits_read, le-leb low (number_of d) a, le-leb (number_of d) high b)

-- ---- counts
pub count_read : (one_or_two : Bool) (s r : List ℕ) (n : ℕ) → count_number one_or_two s ≡ Some (n, 125 ∷ r) → count_of one_or_two (123 ∷ s) ≡ Some (n, r)
unfolding count_of
count_read one_or_two s r n e = after_read 123 _ 1 (123 ∷ s) (byte_read 123 s) ∙ step _ e ∙ step _ (byte_read 125 r)

pub count_absent : (one_or_two : Bool) (s : List ℕ) → byte 123 s ≡ None → count_of one_or_two s ≡ Some (1, s)
unfolding count_of
count_absent one_or_two s e = after_absent 123 _ 1 s e

pub any_read : (d r : List ℕ) → digit_run d ≡ length d → 0 < length d → count_of false (123 ∷ (d ++ (125 ∷ r))) ≡ Some (number_of d, r)
unfolding count_number digit_run
any_read d r e h = count_read false (d ++ (125 ∷ r)) r (number_of d) (numeral_read d (125 ∷ r) e h refl)
