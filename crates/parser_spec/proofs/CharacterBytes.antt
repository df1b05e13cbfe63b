-- The bytes of a character: one below 128, which it is, or bytes that are all above 127.
use Rattle.std.specs.Prelude.{None, Some}
use Prim.Native.Nat.{ℕ, zero, suc, ◌+◌, ◌*◌, ◌-◌, ◌≤◌, ◌<◌}
use mathlib.Core.Path.{◌≡◌, refl, ap, sym, subst, ◌∙◌}
use mathlib.Core.List.{List, [], ◌∷◌, ◌++◌}
use mathlib.Core.Bool.{Bool, true, false, ◌&&◌, cond}
use native.Mathlib.Nat.{not-suc-le-zero}
use native.Mathlib.Omega.{arith}
use borrow.Author.Tests.{leb-true, le-leb, ltb-true, ltb-false}
use lib.Dec.{leb, ltb}
use lib.ListN.{length, get_or}
use Rattle.base.proofs.EveryPlace.{both}
use Rattle.parser_spec.specs.Characters.{Range, within, Row, table, byte_in, bytes_in, point_in, character_in, character}
use Rattle.parser_spec.proofs.Held.{Holds, nothing, that, weaker, both_held, and_next}
use Rattle.parser_spec.proofs.Characters.{tested, far, small_character}

abbrev pub all_far : List ℕ → Bool
all_far [] = true
all_far (b ∷ s) = leb 128 b && all_far s

pub far_at : (s : List ℕ) (i : ℕ) → all_far s ≡ true → i < length s → 128 ≤ get_or s i 0
far_at [] i h l = absurd (not-suc-le-zero l)
far_at (b ∷ s) zero h l = leb-true 128 b (both (leb 128 b) (all_far s) h).0
far_at (b ∷ s) (suc i) h l = far_at s i (both (leb 128 b) (all_far s) h).1 (omega arith)

-- ---- bytes above 127, and what is left behind them
record Far (s r : List ℕ) : Type 0 where
  bytes : List ℕ
  text : s ≡ bytes ++ r
  all : all_far bytes ≡ true

none_far : (s : List ℕ) → Far s s
none_far s = record { bytes = []; text = refl; all = refl }

-- the first of them
record First (s q : List ℕ) : Type 0 where
  byte : ℕ
  text : s ≡ byte ∷ q
  high : 128 ≤ byte

behind_first : {s q r : List ℕ} → First s q → Far q r → Far s r
behind_first b f = record {
  bytes = b.byte ∷ f.bytes;
  text = b.text ∙ ap (λ (l : List ℕ). b.byte ∷ l) f.text;
  all = ap (λ (t : Bool). t && all_far f.bytes) (le-leb 128 b.byte b.high) ∙ f.all;
}

abbrev far_ranges : List Range → Bool
far_ranges [] = true
far_ranges (r ∷ rs) = leb 128 r.low && far_ranges rs

byte_far : (r : Range) (s : List ℕ) → leb 128 r.low ≡ true → Holds (λ (d : ℕ) (q : List ℕ). First s q) (byte_in r s)
unfolding byte_in
byte_far r [] h = nothing
byte_far r (b ∷ s) h = go (within r b) refl
  where
    go : (t : Bool) → within r b ≡ t → Holds (λ (d : ℕ) (q : List ℕ). First (b ∷ s) q) (cond t (Some (b - r.low, s)) None)
    go true e = that (record { byte = b; text = refl; high = omega (arith, leb-true 128 r.low h, leb-true r.low b (both (leb r.low b) (leb b r.high) e).0) })
    go false e = nothing

trail_far : (n : ℕ) (rs : List Range) (s : List ℕ) → far_ranges rs ≡ true → Holds (λ (x : ℕ) (r : List ℕ). Far s r) (bytes_in n rs s)
unfolding bytes_in
trail_far n [] s h = that (none_far s)
trail_far n (r ∷ rs) s h =
    let p = both (leb 128 r.low) (far_ranges rs) h in
    and_next (byte_far r s p.0) λ d q f. weaker (λ x z g. behind_first f g) (trail_far (n * 64 + d) rs q p.1)

abbrev far_trails : List Row → Bool
far_trails [] = true
far_trails (r ∷ rows) = far_ranges r.trail && far_trails rows

-- behind the first byte
row_far : (rows : List Row) (b : ℕ) (s : List ℕ) → far_trails rows ≡ true → Holds (λ (x : ℕ) (r : List ℕ). Far s r) (character_in rows (b ∷ s))
unfolding character_in point_in
row_far [] b s h = nothing
row_far (r ∷ rows) b s h =
    let p = both (far_ranges r.trail) (far_trails rows) h in
    tested (within r.lead b) (and_next (trail_far (b - r.lead.low) r.trail s p.0) λ m q f. that f) (row_far rows b s p.1)

-- ---- a character in its bytes
pub data Sort (x : ℕ) (bytes : List ℕ) : Type 0 where
  small : x < 128 → bytes ≡ x ∷ [] → Sort x bytes
  high : 128 ≤ x → all_far bytes ≡ true → Sort x bytes

pub record InBytes (s : List ℕ) (x : ℕ) (r : List ℕ) : Type 0 where
  pub bytes : List ℕ
  pub text : s ≡ bytes ++ r
  pub some_byte : 0 < length bytes
  pub sort : Sort x bytes

one_byte : (b : ℕ) (s : List ℕ) → b < 128 → Holds (InBytes (b ∷ s)) (character (b ∷ s))
one_byte b s h = subst (Holds (InBytes (b ∷ s))) (sym (small_character b s h)) (that (record { bytes = b ∷ []; text = refl; some_byte = omega arith; sort = small h refl }))

far_bytes : (b : ℕ) (s : List ℕ) → 128 ≤ b → Holds (InBytes (b ∷ s)) (character (b ∷ s))
unfolding table
far_bytes b s h =
    both_held (λ x r l f. record {
      bytes = b ∷ f.bytes;
      text = ap (λ (l : List ℕ). b ∷ l) f.text;
      some_byte = omega arith;
      sort = high l (ap (λ (t : Bool). t && all_far f.bytes) (le-leb 128 b h) ∙ f.all);
    }) (far b s h) (row_far table b s refl)

pub in_bytes : (s : List ℕ) → Holds (InBytes s) (character s)
unfolding character_in table
in_bytes [] = nothing
in_bytes (b ∷ s) = go (ltb b 128) refl
  where
    go : (t : Bool) → ltb b 128 ≡ t → Holds (InBytes (b ∷ s)) (character (b ∷ s))
    go true e = one_byte b s (ltb-true b 128 e)
    go false e = far_bytes b s (ltb-false b 128 e)
