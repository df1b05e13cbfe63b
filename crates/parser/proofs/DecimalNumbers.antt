-- Laws of decimal numbers in a text.
use Rattle.std.specs.Prelude.{fold}
use Prim.Native.Nat.{ℕ, suc, ◌+◌, ◌*◌, ◌≤◌, ◌<◌, ◌-◌, min}
use mathlib.Core.Path.{◌≡◌, ap, sym, ◌∙◌}
use mathlib.Core.List.{List, [], ◌∷◌}
use mathlib.Core.Bool.{Bool, true, false, not, cond}
use native.Mathlib.Omega.{arith}
use borrow.Author.Tests.{eq-eqb, ne_eqb, not-true, not-false}
use lib.Dec.{eqb}
use lib.ListN.{length, drop, get_or, drop_of_length-le, length-drop}
use Rattle.base.proofs.Parts.{drop_next}
use Rattle.parser_spec.specs.DecimalNumbers.{is_digit, digit_value, digit_run, Run, decimal, most, number_of}
use Rattle.parser_spec.specs.Parts.{before_byte}
use Rattle.parser_spec.proofs.Behind.{run_within}

run_is : (s : List ℕ) (at r : ℕ) → r ≡ digit_run (drop at s) → Run s at r
run_is s at r e = record { is = e; fits = rw (e, ← length-drop at s) (run_within (drop at s)) }

-- a run of digits, counted from a place on
module _ (s : List ℕ) (at i : ℕ) (l : at ≤ i) (inv : (i - at) + digit_run (drop i s) ≡ digit_run (drop at s)) where
  pub run_end : (r : ℕ) → length s ≤ i → r ≡ i - at → Run s at r
  unfolding digit_run
  run_end r h k = let e : digit_run (drop i s) ≡ 0 = rw (drop_of_length-le s h) in run_is s at r (omega arith)

  run_at : i < length s → digit_run (drop i s) ≡ cond (is_digit (get_or s i 0)) (suc (digit_run (drop (i + 1) s))) 0
  unfolding digit_run
  run_at h = rw (drop_next s i h)

  pub run_stop : (t : Bool) → i < length s → t ≡ is_digit (get_or s i 0) → not t ≡ true → Run s at (i - at)
  run_stop t h e n = let z : digit_run (drop i s) ≡ 0 = run_at h ∙ rw (← e, not-true t n) in run_is s at (i - at) (omega arith)

  pub run_more : (t : Bool) → i < length s → t ≡ is_digit (get_or s i 0) → not t ≡ false → (i + 1 - at) + digit_run (drop (i + 1) s) ≡ digit_run (drop at s)
  run_more t h e n = let z : digit_run (drop i s) ≡ suc (digit_run (drop (i + 1) s)) = run_at h ∙ rw (← e, not-false t n) in omega arith

pub ruleset runs = (run_end, run_stop, run_more)

-- holding a number before a digit is added changes nothing
held : (l : List ℕ) (x : ℕ) → min (decimal (min x most) l) most ≡ min (decimal x l) most
unfolding decimal
held [] x = omega arith
held (b ∷ l) x =
    let e : min (min x most * 10 + digit_value b) most ≡ min (x * 10 + digit_value b) most = omega arith in
    sym (held l (min x most * 10 + digit_value b)) ∙ ap (λ (y : ℕ). min (decimal y l) most) e ∙ held l (x * 10 + digit_value b)

digits_held : (s : List ℕ) (n : ℕ) → n ≤ most → fold (λ n b. min (n * 10 + digit_value b) most) n s ≡ min (decimal n s) most
unfolding decimal
digits_held [] n h = omega arith
digits_held (b ∷ s) n h = digits_held s (min (n * 10 + digit_value b) most) (omega arith) ∙ held s (n * 10 + digit_value b)

pub number_is : (s : List ℕ) → fold (λ n b. min (n * 10 + digit_value b) most) 0 s ≡ number_of s
unfolding number_of
number_is s = digits_held s 0 (omega arith)

-- the first byte of a value, counted from the start
module _ (v : ℕ) (s : List ℕ) (i : ℕ) (inv : i + before_byte v (drop i s) ≡ before_byte v s) where
  pub before_end : length s ≤ i → i ≡ before_byte v s
  unfolding before_byte
  before_end h = let e : before_byte v (drop i s) ≡ 0 = rw (drop_of_length-le s h) in omega arith

  before_at : i < length s → before_byte v (drop i s) ≡ cond (eqb (get_or s i 0) v) 0 (suc (before_byte v (drop (i + 1) s)))
  unfolding before_byte
  before_at h = rw (drop_next s i h)

  pub before_here : i < length s → get_or s i 0 ≡ v → i ≡ before_byte v s
  before_here h e = let z : before_byte v (drop i s) ≡ 0 = before_at h ∙ rw (eq-eqb _ _ e) in omega arith

  pub before_more : i < length s → (get_or s i 0 ≡ v → ⊥) → (i + 1) + before_byte v (drop (i + 1) s) ≡ before_byte v s
  before_more h e = let z : before_byte v (drop i s) ≡ suc (before_byte v (drop (i + 1) s)) = before_at h ∙ rw (ne_eqb _ _ e) in omega arith

pub ruleset bytes_before = (before_end, before_here, before_more)
