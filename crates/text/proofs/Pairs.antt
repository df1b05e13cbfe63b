-- Laws of hexadecimal text.
use Rattle.std.specs.Prelude.{None, Some}
use Prim.Native.Nat.{ℕ, zero, suc, ◌+◌, ◌*◌, ◌-◌, ◌/◌, ◌%◌, ◌≤◌, ◌<◌}
use mathlib.Core.Path.{◌≡◌, refl, ap, ap₂, sym, ◌∙◌}
use mathlib.Core.List.{List, [], ◌∷◌}
use mathlib.Core.Bool.{Bool, true, false, not, ◌&&◌, true≢false}
use native.Mathlib.Omega.{arith}
use lib.Dec.{ltb, leb, eqb, leb-zero}
use lib.ListN.{length, take, drop, get_or, set, length-set, drop_of_length-le}
use borrow.Author.Tests.{lt-ltb, le-ltb, lt-leb, le-leb, ltb-true, eqb-true, not-false}
use Rattle.base.specs.Put.{put, Wrote}
use Rattle.base.proofs.Parts.{drop_next}
use Rattle.base.proofs.Put.{put_cons, put_none, put_front, put_behind, wrote_length}
use Rattle.text.specs.Line.{same}
use Rattle.text.specs.Hex.{digit, hex, nibble, digits, hex_text, pairs, unhexed, fitting, Unhexed}

-- ---- digits of bytes
pub digit_low : (d : ℕ) → d < 10 → 48 + d ≡ digit d
unfolding digit
digit_low d h = rw (lt-ltb d 10 h)

pub digit_high : (d : ℕ) → 10 ≤ d → 55 + d ≡ digit d
unfolding digit
digit_high d h = rw (le-ltb d 10 h)

pub hex_length : (s : List ℕ) → length (hex s) ≡ 2 * length s
unfolding hex
hex_length [] = refl
hex_length (b ∷ s) = omega (arith, hex_length s)

hex_step : (s : List ℕ) (i : ℕ) → i < length s → hex (drop i s) ≡ digit (get_or s i 0 / 16) ∷ digit (get_or s i 0 % 16) ∷ hex (drop (i + 1) s)
unfolding hex
hex_step s i h = rw (drop_next s i h)

hex_end : (s : List ℕ) (i : ℕ) → length s ≤ i → hex (drop i s) ≡ []
unfolding hex
hex_end s i h = rw (drop_of_length-le s h)

-- two stores, and the others behind them
two_stored : (l : List ℕ) (p c d : ℕ) (bs : List ℕ) → p + 1 < length l → put (set (set l p c) (p + 1) d) (p + 2) bs ≡ put l p (c ∷ d ∷ bs)
two_stored l p c d bs h =
    let n : p + 2 ≡ p + 1 + 1 = omega arith in
    let g : p + 1 < length (set l p c) = simp length-set h in
    rw n (put_cons (set l p c) (p + 1) d bs g ∙ put_cons l p c (d ∷ bs) (omega arith))

-- stores keep the length
pub one_kept : (l : List ℕ) (p c n : ℕ) → length l ≡ n → length (set l p c) ≡ n
one_kept l p c n h = simp length-set h

pub two_kept : (l : List ℕ) (p c q d n : ℕ) → length l ≡ n → length (set (set l p c) q d) ≡ n
two_kept l p c q d n h = simp length-set h

module _ (l₀ l s : List ℕ) (at p i : ℕ) (n : p ≡ at + 2 * i) (e : put l p (hex (drop i s)) ≡ put l₀ at (hex s)) where
  pub hex_turn : (c d : ℕ) → i < length s → at + 2 * length s ≤ length l₀ → length l ≡ length l₀ → c ≡ digit (get_or s i 0 / 16) → d ≡ digit (get_or s i 0 % 16) → put (set (set l p c) (p + 1) d) (p + 2) (hex (drop (i + 1) s)) ≡ put l₀ at (hex s)
  hex_turn c d h g len ec ed =
      two_stored l p c d (hex (drop (i + 1) s)) (omega arith)
      ∙ ap (put l p) (ap₂ (λ (x y : ℕ). x ∷ y ∷ hex (drop (i + 1) s)) ec ed ∙ sym (hex_step s i h))
      ∙ e

  pub hex_done : i ≤ length s → length s ≤ i → Wrote l₀ at (hex s) p l
  hex_done a b = record {
    end = omega (arith, hex_length s);
    now = sym (put_none l p) ∙ ap (put l p) (sym (hex_end s i b)) ∙ e;
  }

-- ---- the value of a digit
module _ (c : ℕ) where
  pub a_digit : 48 ≤ c → c ≤ 57 → c - 48 ≡ nibble c
  unfolding nibble
  a_digit h g = rw (le-leb 48 c h, le-leb c 57 g)

  pub a_capital : 65 ≤ c → c ≤ 70 → c - 55 ≡ nibble c
  unfolding nibble
  a_capital h g = rw (le-leb 48 c (omega arith), lt-leb c 57 (omega arith), le-leb 65 c h, le-leb c 70 g)

-- ---- nothing but digits
pub both : (a b : Bool) → (a && b) ≡ true → (a ≡ true) × (b ≡ true)
both true b e = (refl, e)
both false b e = absurd (true≢false (sym e))

pub digit_at : (s : List ℕ) (i : ℕ) → digits s ≡ true → i < length s → nibble (get_or s i 0) < 16
unfolding digits
digit_at [] i e h = absurd (omega arith)
digit_at (c ∷ s) zero e h = ltb-true (nibble c) 16 (both (ltb (nibble c) 16) (digits s) e).0
digit_at (c ∷ s) (suc i) e h = digit_at s i (both (ltb (nibble c) 16) (digits s) e).1 (omega arith)

-- ---- pairs of digits
pub pairs_length : (k : ℕ) (s : List ℕ) → length s ≡ 2 * k → length (pairs s) ≡ k
unfolding pairs
pairs_length zero [] h = refl
pairs_length zero (a ∷ s) h = absurd (omega arith)
pairs_length (suc k) [] h = absurd (omega arith)
pairs_length (suc k) (a ∷ []) h = absurd (omega arith)
pairs_length (suc k) (a ∷ b ∷ s) h = ap suc (pairs_length k s (omega arith))

-- a turn of the loop over pairs
module _ (s l₀ l : List ℕ) (i : ℕ) (even : length s % 2 ≡ 0) (e : put l i (pairs (drop (2 * i) s)) ≡ put l₀ 0 (pairs s)) where
  pub pairs_turn : (b : ℕ) → i < length s / 2 → length s ≤ 2 * length l₀ → length l ≡ length l₀ → b ≡ nibble (get_or s (2 * i) 0) * 16 + nibble (get_or s (2 * i + 1) 0) → put (set l i b) (i + 1) (pairs (drop (2 * (i + 1)) s)) ≡ put l₀ 0 (pairs s)
  unfolding pairs
  pairs_turn b h g len f =
      let k : 2 * (i + 1) ≡ 2 * i + 1 + 1 = omega arith in
      let p : pairs (drop (2 * i) s) ≡ b ∷ pairs (drop (2 * (i + 1)) s) = rw (drop_next s (2 * i) (omega arith), drop_next s (2 * i + 1) (omega arith), k, f) in
      put_cons l i b (pairs (drop (2 * (i + 1)) s)) (omega arith) ∙ ap (put l i) (sym p) ∙ e

  pub pairs_done : (n : ℕ) → n ≡ i → n ≡ length s / 2 → Wrote l₀ 0 (pairs s) n l
  unfolding pairs
  pairs_done n k h =
      let g : length s ≤ 2 * i = omega arith in
      let p : pairs (drop (2 * i) s) ≡ [] = rw (drop_of_length-le s g) in
      record {
        end = omega (arith, pairs_length i s (omega arith));
        now = sym (put_none l n) ∙ ap (put l n) (sym p) ∙ ap (λ (m : ℕ). put l m (pairs (drop (2 * i) s))) k ∙ e;
      }

-- ---- byte strings
some_there : (n : ℕ) → (n ≡ 0 → ⊥) → 0 < n
some_there zero h = absurd (h refl)
some_there (suc n) h = omega arith

module _ (s : List ℕ) where
  -- what digits that are a text are
  module _ (h : hex_text s ≡ true) where
    parts : (ltb 0 (length s) ≡ true) × ((eqb (length s % 2) 0 && digits s) ≡ true)
    unfolding hex_text
    parts = both (ltb 0 (length s)) (eqb (length s % 2) 0 && digits s) h

    pub text_even : length s % 2 ≡ 0
    text_even = eqb-true (length s % 2) 0 (both (eqb (length s % 2) 0) (digits s) parts.1).0

    pub text_hex : digits s ≡ true
    text_hex = (both (eqb (length s % 2) 0) (digits s) parts.1).1

    text_bytes : unhexed s ≡ Some (pairs s)
    unfolding unhexed
    text_bytes = rw h

    text_length_lem : length (pairs s) ≡ length s / 2
    text_length_lem = pairs_length (length s / 2) s (omega (arith, text_even))

    pub unhex_full : (out : List ℕ) → length out < length s / 2 → Unhexed s out None out
    unfolding fitting
    unhex_full out g =
        let e : leb (length (pairs s)) (length out) ≡ false = lt-leb (length (pairs s)) (length out) (omega (arith, text_length_lem)) in
        record { fits = omega arith; counts = refl; right = rw (text_bytes, e); kept = refl; refused = λ _. refl }

    pub unhex_done : (n : ℕ) (out out' : List ℕ) → length s / 2 ≤ length out → Wrote out 0 (pairs s) n out' → Unhexed s out (Some n) out'
    unfolding fitting
    unhex_done n out out' g w =
        let room : 0 + length (pairs s) ≤ length out = omega (arith, text_length_lem) in
        let e : leb (length (pairs s)) (length out) ≡ true = le-leb (length (pairs s)) (length out) (omega arith) in
        let first : take n out' ≡ pairs s = ap₂ take w.end w.now ∙ put_front out 0 (pairs s) room in
        record {
          fits = omega (arith, wrote_length w room, w.end);
          counts = sym (ap length first ∙ omega (arith, w.end));
          right = rw (text_bytes, e) (ap Some first);
          kept = ap₂ drop w.end w.now ∙ put_behind out 0 (pairs s) room ∙ ap (λ (k : ℕ). drop k out) (sym w.end);
          refused = λ z. cc;
        }

pub text_said : (s : List ℕ) (u : Bool) → u ≡ hex_text s → not u ≡ false → hex_text s ≡ true
text_said s u e f = sym e ∙ not-false u f

-- a text that is no digits
module _ (s out : List ℕ) (h : false ≡ hex_text s) where
  pub unhex_no : false ≡ same s (45 ∷ []) → Unhexed s out None out
  unfolding unhexed fitting
  unhex_no e = record { fits = omega arith; counts = refl; right = rw (← h, ← e); kept = refl; refused = λ _. refl }

  pub unhex_none : true ≡ same s (45 ∷ []) → Unhexed s out (Some 0) out
  unfolding unhexed fitting
  unhex_none e = record { fits = omega arith; counts = refl; right = rw (← h, ← e, leb-zero (length out)); kept = refl; refused = λ z. cc }

pub ruleset byte_strings = (unhex_no, unhex_none, unhex_full, unhex_done, text_even, text_hex)
