-- A bit of a number in two's complement, and of a word or a long.
use Rattle.std.specs.Prelude.{None, Some, Result, Ok, Err}
use Prim.Native.Nat.{ℕ, zero, suc, ◌/◌, ◌%◌, ◌^◌, ◌≤◌, ◌<◌, min}
use mathlib.Core.Path.{◌≡◌, refl, sym, subst, ◌∙◌}
use mathlib.Core.Logic.{◌⊎◌, inl, inr}
use mathlib.Core.Bool.{Bool, true, false, not, cond}
use mathlib.Core.List.{List, [], ◌∷◌}
use native.Mathlib.Nat.{div-eq_of_lt}
use native.Mathlib.Omega.{arith}
use borrow.Author.Tests.{leb-true, leb-false}
use lib.Dec.{leb, eqb}
use lib.IntN.{ℤ, pos, negsuc}
use lib.ListN.{length, take, drop}
use lib.Pow.{pow_mono}
use mir.Syntax.{Width, w16, w32, w64}
use mir.Val.{SFits, hbits, to_z, of_z}
use mir.ValLaws.{to_z-of_z}
use Rattle.base.specs.Numbers.{number}
use Rattle.element_whole.specs.declared.Parted.{Parted}
use Rattle.element_whole.specs.Whole.{signed, joined}
use Rattle.reply_values_spec.specs.declared.DataType.{DataType}
use Rattle.reply_values_spec.specs.declared.DataType.TheVariants.{Int, DInt, Real, Ascii, Line, No}
use Rattle.reply_values_spec.specs.declared.ReplyValue.TheVariants as value
use Rattle.reply_values_spec.specs.declared.ReplyValue.{ReplyValue}
use Rattle.base.specs.declared.refusal.Refusal.{Refusal}
use Rattle.base.specs.declared.refusal.Refusal.TheVariants.{UnreadableReply, NoSuchValue}
use Rattle.reply_values_spec.specs.Values.{Value, bit, value_of, decoded, least, bit_at, bit_of, alone, value_at, asked, reply_of}
use Rattle.reply_values_spec.proofs.InParts.{too_short, is_decoded}

-- a number below 2 to the 63rd has no bit from there on
same_bits : (m n idx : ℕ) → m < 2 ^ 63 → n ≡ min idx 63 → m / 2 ^ n ≡ m / 2 ^ idx
same_bits m n idx h e = go (leb idx 63) refl
  where
    go : (b : Bool) → leb idx 63 ≡ b → m / 2 ^ n ≡ m / 2 ^ idx
    go true t = let q : n ≡ idx = omega (arith, leb-true idx 63 t) in rw q
    go false t =
        let q : n ≡ 63 = omega (arith, leb-false idx 63 t) in
        let i : 63 ≤ idx = omega (arith, leb-false idx 63 t) in
        let p : 2 ^ 63 ≤ 2 ^ idx = pow_mono i in
        let g : m < 2 ^ idx = omega (arith, p) in
        rw q (div-eq_of_lt h ∙ sym (div-eq_of_lt g))

module _ (z : ℤ) (p : Parted) (n idx : ℕ) (f : SFits w64 z) (e : to_z w64 (of_z w64 z) ≡ joined p) (k : n ≡ min idx 63) where
  parted : z ≡ joined p
  parted = sym (to_z-of_z w64 z f) ∙ e

  below : (q : ℤ) → SFits w64 q → q ≡ joined p → p.size < 2 ^ 63
  below q g h = go p.negative (subst (λ (q : ℤ). SFits w64 q) h g)
    where
      go : (b : Bool) → SFits w64 (cond b (negsuc p.size) (pos p.size)) → p.size < 2 ^ 63
      go true g = g.sfits
      go false g = g.sfits

  same : p.size / 2 ^ n ≡ p.size / 2 ^ idx
  same = same_bits p.size n idx (below z f parted) k

  pub bit_negative : p.negative ≡ true → not (eqb (p.size / 2 ^ n % 2) 1) ≡ bit_at idx z
  unfolding bit_at
  bit_negative h = rw (parted, h, same)

  pub bit_positive : p.negative ≡ false → eqb (p.size / 2 ^ n % 2) 1 ≡ bit_at idx z
  unfolding bit_at
  bit_positive h = rw (parted, h, same)

-- ---- the only value
module _ (v : Value) (i : ℕ) where
  past_only : 0 < i → value_at i (v ∷ []) ≡ None
  unfolding value_at
  past_only h = go i h
    where
      go : (i : ℕ) → 0 < i → value_at i (v ∷ []) ≡ None
      go zero h = absurd (omega arith)
      go (suc i) h = refl

  the_only : i ≤ 0 → value_at i (v ∷ []) ≡ Some v
  unfolding value_at
  the_only h = let z : i ≡ 0 = omega arith in rw z

module _ (z : ℤ) (sub i : ℕ) where
  pub bit_past : 0 < i → Err NoSuchValue ≡ reply_of (asked i 0 (Some (bit (bit_at sub z) ∷ [])))
  bit_past h = rw (past_only (bit (bit_at sub z)) i h)

  pub bit_only : {b : Bool} {y : ℤ} → i ≤ 0 → SFits w64 z → y ≡ to_z w64 (of_z w64 z) → b ≡ bit_at sub y → Ok (value.Bit b, 1) ≡ reply_of (asked i 0 (Some (bit (bit_at sub z) ∷ [])))
  bit_only h f d e = rw (the_only (bit (bit_at sub z)) i h, e, d, to_z-of_z w64 z f)

-- ---- of a part
-- a word or a long is the same number in 64 bits
module _ (w : Width) (z : ℤ) (h : hbits w ≤ 63) (f : SFits w z) where
  pub whole_cast : SFits w64 (to_z w (of_z w z))
  whole_cast = subst (λ (z : ℤ). SFits w64 z) (sym (to_z-of_z w z f)) (record { sfits = omega (arith, f.sfits, pow_mono h) })

  pub whole_same : to_z w64 (of_z w64 (to_z w (of_z w z))) ≡ z
  whole_same = to_z-of_z w64 (to_z w (of_z w z)) whole_cast ∙ to_z-of_z w z f

module _ (p : List ℕ) (sub i : ℕ) (k : DataType) {n : ℕ} (l : n ≡ least k) where
  pub part_short : length p < n → Err UnreadableReply ≡ reply_of (asked i 0 (alone (bit_of sub (decoded k p))))
  part_short h = rw (too_short k p (omega arith))

  module _ (h : n ≤ length p) where
    there : decoded k p ≡ value_of k p
    there = is_decoded k p (omega arith)

    pub word_bit : {r : Result (ReplyValue × ℕ) Refusal} {x : ℕ} {y z : ℤ} → k ≡ Int → SFits w16 z → x ≡ number (take 2 (drop 0 p)) → z ≡ signed 0xFFFF x → y ≡ to_z w16 (of_z w16 z)
        → r ≡ reply_of (asked i 0 (Some (bit (bit_at sub (to_z w64 (of_z w64 y))) ∷ []))) → r ≡ reply_of (asked i 0 (alone (bit_of sub (decoded k p))))
    word_bit {r} {x} {y} {z} e f a b d g = g ∙ rw (d, whole_same w16 z (omega arith) f, b, a, there, e)

    pub long_bit : {r : Result (ReplyValue × ℕ) Refusal} {x : ℕ} {y z : ℤ} → k ≡ DInt → SFits w32 z → x ≡ number (take 4 (drop 0 p)) → z ≡ signed 0xFFFFFFFF x → y ≡ to_z w32 (of_z w32 z)
        → r ≡ reply_of (asked i 0 (Some (bit (bit_at sub (to_z w64 (of_z w64 y))) ∷ []))) → r ≡ reply_of (asked i 0 (alone (bit_of sub (decoded k p))))
    long_bit {r} {x} {y} {z} e f a b d g = g ∙ rw (d, whole_same w32 z (omega arith) f, b, a, there, e)

    -- floats and text have no bits
    bitless : bit_of sub (value_of k p) ≡ None → Err UnreadableReply ≡ reply_of (asked i 0 (alone (bit_of sub (decoded k p))))
    bitless e = rw (there, e)

    pub no_bit : (k ≡ Real) ⊎ ((k ≡ Ascii) ⊎ ((k ≡ Line) ⊎ (k ≡ No))) → Err UnreadableReply ≡ reply_of (asked i 0 (alone (bit_of sub (decoded k p))))
    no_bit (inl e) = bitless (rw e)
    no_bit (inr (inl e)) = bitless (rw e)
    no_bit (inr (inr (inl e))) = bitless (rw e)
    no_bit (inr (inr (inr e))) = bitless (rw e)
