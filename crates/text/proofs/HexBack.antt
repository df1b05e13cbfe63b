-- What is written is read back.
use Rattle.std.specs.Prelude.{Some}
use Prim.Native.Nat.{ℕ, suc, ◌+◌, ◌*◌, ◌-◌, ◌/◌, ◌%◌, ◌≤◌, ◌<◌}
use mathlib.Core.Path.{◌≡◌, refl, ap, sym, ◌∙◌}
use mathlib.Core.List.{List, [], ◌∷◌}
use mathlib.Core.Bool.{Bool, true, false}
use native.Mathlib.Omega.{arith}
use lib.Dec.{ltb}
use lib.ListN.{length, get_or}
use borrow.Author.Tests.{lt-ltb, eq-eqb, ltb-true, ltb-false}
use Rattle.text.specs.Hex.{digit, hex, nibble, digits, hex_text, pairs, unhexed}
use Rattle.text.proofs.Pairs.{digit_low, digit_high, a_digit, a_capital, hex_length}

digit_back : (d : ℕ) → d < 16 → nibble (digit d) ≡ d
digit_back d h = go (ltb d 10) refl
  where
    go : (t : Bool) → ltb d 10 ≡ t → nibble (digit d) ≡ d
    go true e =
        let g : d < 10 = ltb-true d 10 e in
        let k : 48 + d - 48 ≡ d = omega arith in
        ap nibble (sym (digit_low d g)) ∙ sym (a_digit (48 + d) (omega arith) (omega arith)) ∙ k
    go false e =
        let g : 10 ≤ d = ltb-false d 10 e in
        let k : 55 + d - 55 ≡ d = omega arith in
        ap nibble (sym (digit_high d g)) ∙ sym (a_capital (55 + d) (omega arith) (omega arith)) ∙ k

-- the digits of a list of bytes are digits, and their pairs are the bytes
pub record Back (bs : List ℕ) : Type 0 where
  pub good : digits (hex bs) ≡ true
  pub same : pairs (hex bs) ≡ bs

back : (bs : List ℕ) → ((i : ℕ) → get_or bs i 0 < 256) → Back bs
unfolding hex digits pairs
back [] f = record { good = refl; same = refl }
back (b ∷ bs) f =
    let r = back bs (λ i. f (suc i)) in
    let h : b / 16 < 16 = omega (arith, f 0) in
    let g : b % 16 < 16 = omega arith in
    let e : b / 16 * 16 + b % 16 ≡ b = omega arith in
    record {
      good = rw (digit_back (b / 16) h, digit_back (b % 16) g, lt-ltb (b / 16) 16 h, lt-ltb (b % 16) 16 g) r.good;
      same = rw (digit_back (b / 16) h, digit_back (b % 16) g, e) (ap (λ (l : List ℕ). b ∷ l) r.same);
    }

pub hex_back : (bs : List ℕ) → ((i : ℕ) → get_or bs i 0 < 256) → 0 < length bs → unhexed (hex bs) ≡ Some bs
unfolding unhexed hex_text
hex_back bs f h =
    let r = back bs f in
    let n : 0 < length (hex bs) = omega (arith, hex_length bs) in
    let e : length (hex bs) % 2 ≡ 0 = omega (arith, hex_length bs) in
    rw (lt-ltb 0 (length (hex bs)) n, eq-eqb (length (hex bs) % 2) 0 e, r.good) (ap Some r.same)
