-- Laws of signed numbers, as the machine reads them: an `i64` is read from its bits again and again, and each time it is what it was.
use Rattle.std.specs.Prelude.{Option, None, Some, option_and_then}
use Prim.Native.Nat.{ℕ, suc, ◌+◌, ◌-◌, ◌≤◌}
use mathlib.Core.List.{List, [], ◌∷◌, ◌++◌}
use mathlib.Core.Path.{◌≡◌, refl, ap, ap₂, sym, subst, ◌∙◌}
use mathlib.Core.Bool.{Bool, true, false, cond}
use native.Mathlib.Omega.{arith}
use lib.Dec.{ltb}
use lib.IntN.{ℤ, pos, negsuc, nat_abs}
use lib.ListN.{length, take, drop, get_or}
use lib.Seq.{length-take-le, take_all}
use lib.Signed.{mag, lt_z, nat_abs-le}
use mir.Syntax.{w64}
use mir.Val.{SFits, to_z, of_z}
use mir.Facts.{to_z-of_z}
use borrow.Author.Tests.{le-ltb, lt-leb, eq-eqb, ne_eqb, ltb-true, ltb-false}
use Rattle.base.specs.Put.{Wrote, Puts}
use Rattle.base.proofs.Put.{put_front, wrote_length, puts_wrote}
use Rattle.decimal.specs.Decimals.{decimal, signed_text, number_of, unsigned_of, plus, minus, signed_of}
use Rattle.decimal.proofs.Decimals.{decimal_length}

size_pos : (z : ℤ) → lt_z z (pos 0) ≡ false → z ≡ pos (mag z)
size_pos (pos n) h = refl
size_pos (negsuc n) h = absurd (let y : ◌≡◌ {A = Bool} true false = h in let x : ◌≡◌ {A = ℕ} 0 1 = ap (λ (t : Bool). cond t 0 1) y in omega arith)

-- ---- the text of a number
module _ (z : ℤ) (f : SFits w64 z) where
  itself_is : nat_abs (to_z w64 (of_z w64 z)) ≡ nat_abs z
  itself_is = ap nat_abs (to_z-of_z f)

  text_neg : lt_z (to_z w64 (of_z w64 z)) (pos 0) ≡ true → signed_text z ≡ 45 ∷ decimal (nat_abs z)
  unfolding signed_text
  text_neg h = go z (subst (λ (x : ℤ). lt_z x (pos 0) ≡ true) (to_z-of_z f) h)
    where
      go : (x : ℤ) → lt_z x (pos 0) ≡ true → signed_text x ≡ 45 ∷ decimal (nat_abs x)
      go (pos n) g = absurd (omega (arith, ltb-true n 0 g))
      go (negsuc n) g = refl

  text_pos : lt_z (to_z w64 (of_z w64 z)) (pos 0) ≡ false → decimal (nat_abs z) ≡ signed_text z
  unfolding signed_text
  text_pos h =
      let e = size_pos z (subst (λ (x : ℤ). lt_z x (pos 0) ≡ false) (to_z-of_z f) h) in
      ap (λ (x : ℤ). decimal (nat_abs x)) e ∙ ap signed_text (sym e)

  pub signed_plain : {out out' : List ℕ} {at r : ℕ} (m : ℕ) → lt_z (to_z w64 (of_z w64 z)) (pos 0) ≡ false → m ≡ nat_abs (to_z w64 (of_z w64 z)) → Puts out at (decimal m) r out' → Puts out at (signed_text z) r out'
  signed_plain {out} {out'} {at} {r} m h e w = subst (λ (y : List ℕ). Puts out at y r out') (ap decimal (e ∙ itself_is) ∙ text_pos h) w

  -- a `-` with the digits behind it in 20 bytes
  module _ (t x : List ℕ) (m e : ℕ) (k : m ≡ nat_abs (to_z w64 (of_z w64 z))) (w : Puts t 1 (decimal m) e x) (len : length t ≡ 20) where
    room : 1 + length (decimal m) ≤ length t
    room = omega (arith, decimal_length 18 m (omega (arith, itself_is, nat_abs-le z f.sfits)))

    wrote : Wrote t 1 (decimal m) e x
    wrote = puts_wrote w room

    pub signed_fits : e ≤ length x
    signed_fits = omega (arith, wrote.end, wrote_length wrote room, room)

    first : take e x ≡ take 1 t ++ decimal m
    first = ap₂ take wrote.end wrote.now ∙ put_front t 1 (decimal m) room

    pub signed_counts : e ≡ length (take e x)
    signed_counts = sym (length-take-le e x signed_fits)

    pub signed_minus : {out out' : List ℕ} {at r : ℕ} → take 1 t ≡ 45 ∷ [] → lt_z (to_z w64 (of_z w64 z)) (pos 0) ≡ true → Puts out at (take e x) r out' → Puts out at (signed_text z) r out'
    signed_minus {out} {out'} {at} {r} g h v =
        subst (λ (y : List ℕ). Puts out at y r out')
        (first ∙ ap (λ (y : List ℕ). y ++ decimal m) g ∙ ap (λ (n : ℕ). 45 ∷ decimal n) (k ∙ itself_is) ∙ sym (text_neg h)) v

-- ---- the number of a text
-- a number from 2 ^ 64 on is none with a sign either
module _ (sign : Option ℕ → Option ℤ) (none : sign None ≡ None) (large : (n : ℕ) → 18446744073709551616 ≤ n → sign (Some n) ≡ None) where
  signed_read : (o : Option ℕ) → sign o ≡ option_and_then (λ m. sign (Some m)) (unsigned_of o)
  unfolding unsigned_of
  signed_read None = none
  signed_read (Some n) = go (ltb n 18446744073709551616) refl
    where
      go : (t : Bool) → ltb n 18446744073709551616 ≡ t → sign (Some n) ≡ option_and_then (λ m. sign (Some m)) (cond t (Some n) None)
      go true e = refl
      go false e = large n (ltb-false n _ e)

minus_read : (o : Option ℕ) → minus o ≡ option_and_then (λ m. minus (Some m)) (unsigned_of o)
unfolding minus
minus_read = signed_read minus refl (λ n h. rw (lt-leb n 9223372036854775808 (omega arith)))

plus_read : (o : Option ℕ) → plus o ≡ option_and_then (λ m. plus (Some m)) (unsigned_of o)
unfolding plus
plus_read = signed_read plus refl (λ n h. rw (le-ltb n 9223372036854775808 (omega arith)))

pub signed_empty : (s : List ℕ) → length s ≡ 0 → None ≡ signed_of s
unfolding signed_of
signed_empty [] h = refl
signed_empty (c ∷ s) h = absurd (omega arith)

-- the text behind a `-`, or the whole text
pub behind_minus : (s : List ℕ) → get_or s 0 0 ≡ 45 → signed_of s ≡ option_and_then (λ m. minus (Some m)) (unsigned_of (number_of (take (length s - 1) (drop 1 s))))
unfolding signed_of
behind_minus [] h = absurd (omega arith)
behind_minus (c ∷ l) h = rw (eq-eqb c 45 h, take_all (suc (length l) - 1) l (omega arith)) (minus_read (number_of l))

pub without : (s : List ℕ) → (length s ≡ 0 → ⊥) → (get_or s 0 0 ≡ 45 → ⊥) → signed_of s ≡ option_and_then (λ m. plus (Some m)) (unsigned_of (number_of s))
unfolding signed_of
without [] n h = absurd (n refl)
without (c ∷ l) n h = rw (ne_eqb c 45 h) (plus_read (number_of (c ∷ l)))

pub ruleset signs = (signed_empty, behind_minus, without)
