-- Laws of the number that digits stand for.
use Prim.Native.Nat.{ℕ, zero, suc, ◌+◌, ◌*◌, ◌^◌, ◌≤◌, ◌<◌}
use mathlib.Core.Path.{◌≡◌, sym, ◌∙◌}
use mathlib.Core.List.{List}
use mathlib.Core.Bool.{true}
use native.Mathlib.Nat.{pow-suc}
use native.Mathlib.Numerals.{add-one}
use native.Mathlib.Omega.{arith}
use lib.ListN.{length, drop, get_or, drop_of_length-le}
use Rattle.base.proofs.Parts.{drop_next}
use Rattle.text.specs.Hex.{nibble, digits, hex_value}
use Rattle.text.proofs.Pairs.{digit_at}

-- of at most eight digits those up to one make less than 2 ^ 32
pub value_fits : (i n d : ℕ) → i < 8 → n < 16 ^ i → d < 16 → n * 16 + d < 4294967296
value_fits zero n d h g k = omega arith
value_fits (suc zero) n d h g k = omega arith
value_fits (suc (suc zero)) n d h g k = omega arith
value_fits (suc (suc (suc zero))) n d h g k = omega arith
value_fits (suc (suc (suc (suc zero)))) n d h g k = omega arith
value_fits (suc (suc (suc (suc (suc zero))))) n d h g k = omega arith
value_fits (suc (suc (suc (suc (suc (suc zero)))))) n d h g k = omega arith
value_fits (suc (suc (suc (suc (suc (suc (suc zero))))))) n d h g k = omega arith
value_fits (suc (suc (suc (suc (suc (suc (suc (suc i)))))))) n d h g k = absurd (omega arith)

power_more : (i n d : ℕ) → n < 16 ^ i → d < 16 → n * 16 + d < 16 ^ (i + 1)
power_more i n d h k = let e : 16 ^ (i + 1) ≡ 16 ^ i * 16 = rw (add-one, pow-suc) in omega arith

module _ (s : List ℕ) (i n : ℕ) (e : hex_value n (drop i s) ≡ hex_value 0 s) (b : n < 16 ^ i) where
  pub value_turn : (d : ℕ) → digits s ≡ true → i < length s → d ≡ nibble (get_or s i 0) → (n * 16 + d < 16 ^ (i + 1)) × (hex_value (n * 16 + d) (drop (i + 1) s) ≡ hex_value 0 s)
  unfolding hex_value
  value_turn d t h f =
      let k : d < 16 = omega (arith, digit_at s i t h) in
      (power_more i n d b k, sym (rw (drop_next s i h, f)) ∙ e)

  pub value_done : i ≡ length s → (n ≡ hex_value 0 s) × (n < 16 ^ length s)
  unfolding hex_value
  value_done h = let k : length s ≤ i = omega arith in (rw (drop_of_length-le s k) at e, rw (← h) b)

-- two digits make a byte
pub two_below : (s : List ℕ) (r : ℕ) → length s ≡ 2 → r < 16 ^ length s → r < 256
two_below s r e h = rw e at h
