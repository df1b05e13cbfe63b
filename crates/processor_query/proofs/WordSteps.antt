-- The last address and the mask, by the place behind them.
use Rattle.std.specs.Prelude.{Option, None, Some}
use Prim.Native.Nat.{ℕ, ◌+◌, ◌-◌, ◌≤◌, ◌<◌}
use mathlib.Core.Path.{◌≡◌}
use mathlib.Core.List.{List}
use native.Mathlib.Omega.{arith}
use borrow.Author.Tests.{le-leb, ne_eqb}
use lib.ListN.{length, take, drop, length-drop}
use Rattle.base.specs.Numbers.{number}
use Rattle.parser_spec.specs.Parts.{then}
use Rattle.processor_spec.specs.Params.{several, last_address, mask_word}
use Rattle.processor_spec.proofs.Reader.{word_none}
use Rattle.processor_params.specs.Take.{place_of, placed, address_at}
use Rattle.processor_params.proofs.Taking.{place_is}

module _ (fn : ℕ) (s : List ℕ) (at : ℕ) (h : at ≤ length s) where
  pub last_a1 : fn ≡ 0xA1 → Some (0, at) ≡ placed s (last_address fn (drop at s))
  unfolding last_address
  last_a1 e = rw (e, place_is s at h)

  pub last_else : (o : Option (ℕ × ℕ)) → (fn ≡ 0xA1 → ⊥) → o ≡ address_at s at → o ≡ placed s (last_address fn (drop at s))
  unfolding last_address address_at
  last_else o ne e = rw (ne_eqb fn 0xA1 ne) e

  pub mask_else : (fn ≡ 0xAB → ⊥) → Some (0xFFFF, at) ≡ placed s (mask_word fn (drop at s))
  unfolding mask_word
  mask_else ne = rw (ne_eqb fn 0xAB ne, place_is s at h)

  pub mask_cut : fn ≡ 0xAB → length s - at < 2 → None ≡ placed s (mask_word fn (drop at s))
  unfolding mask_word
  mask_cut e l = let n : length s < at + 2 = omega arith in rw (e, word_none s at n)

  pub mask_there : (w : ℕ) → fn ≡ 0xAB → 2 ≤ length s - at → w ≡ number (take 2 (drop at s)) → Some (w, at + 2) ≡ placed s (mask_word fn (drop at s))
  unfolding mask_word several then
  mask_there w e l f =
      let n : 2 ≤ length (drop at s) = simp length-drop (omega arith) in
      let d : length (drop 2 (drop at s)) ≡ length s - at - 2 = simp length-drop in
      let p : place_of s (drop 2 (drop at s)) ≡ at + 2 = omega (arith, d) in
      rw (e, le-leb 2 (length (drop at s)) n, p, ← f)
