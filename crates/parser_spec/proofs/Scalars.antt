-- The table of characters is the Unicode Standard's: each row has as many sequences of bytes as code points, and goes from the sequence of its first to that of its last;
-- every character is a Unicode scalar value.
use Rattle.std.specs.Prelude.{None, Some}
use Prim.Native.Nat.{ℕ, zero, suc, ◌+◌, ◌*◌, ◌-◌, ◌/◌, ◌%◌, ◌^◌, ◌≤◌}
use mathlib.Core.Path.{◌≡◌, refl}
use mathlib.Core.List.{List, [], ◌∷◌, map}
use mathlib.Core.Bool.{Bool, true, false, ◌&&◌, cond}
use native.Mathlib.Omega.{arith}
use borrow.Author.Tests.{leb-true}
use lib.Dec.{leb, ltb}
use Rattle.base.proofs.EveryPlace.{both}
use Rattle.parser_spec.specs.Characters.{Range, within, Row, table, byte_in, bytes_in, point_in, character_in, character}
use Rattle.parser_spec.proofs.Held.{Holds, nothing, that, weaker, and_next}

-- the last sequence of a row, counted as `bytes_in` counts, and the code point that it gives
abbrev last_in : ℕ → List Range → ℕ
last_in n [] = n
last_in n (r ∷ rs) = last_in (n * 64 + (r.high - r.low)) rs

abbrev last_of : Row → ℕ
last_of r = r.first + last_in (r.lead.high - r.lead.low) r.trail

abbrev ends : List Row → List (ℕ × ℕ)
ends [] = []
ends (r ∷ rows) = (r.first, last_of r) ∷ ends rows

-- the table's first column
pub code_points : ends table
    ≡ ((0x0, 0x7F) ∷ (0x80, 0x7FF) ∷ (0x800, 0xFFF) ∷ (0x1000, 0xCFFF) ∷ (0xD000, 0xD7FF) ∷ (0xE000, 0xFFFF) ∷ (0x10000, 0x3FFFF) ∷ (0x40000, 0xFFFFF) ∷ (0x100000, 0x10FFFF) ∷ [])
unfolding table
code_points = refl

-- table 3-6, "UTF-8 Bit Distribution": six bits in each byte behind the first, which has the mark of how many there are
abbrev six_bits : ℕ → ℕ → List ℕ
six_bits zero x = []
six_bits (suc k) x = (0x80 + (x / 64 ^ k) % 64) ∷ six_bits k x

abbrev marked : ℕ → ℕ → ℕ → List ℕ
marked mark k x = (mark + x / 64 ^ k) ∷ six_bits k x

abbrev encoded : ℕ → List ℕ
encoded x = cond (ltb x 0x80) (marked 0x00 0 x) (cond (ltb x 0x800) (marked 0xC0 1 x) (cond (ltb x 0x10000) (marked 0xE0 2 x) (marked 0xF0 3 x)))

-- the sequences that a row goes from and to
abbrev lowest : Row → List ℕ
lowest r = r.lead.low ∷ map (λ (b : Range). b.low) r.trail

abbrev highest : Row → List ℕ
highest r = r.lead.high ∷ map (λ (b : Range). b.high) r.trail

pub sequences : (map (λ (r : Row). encoded r.first) table ≡ map lowest table) × (map (λ (r : Row). encoded (last_of r)) table ≡ map highest table)
unfolding table
sequences = (refl, refl)

-- ---- no surrogate, nothing above U+10FFFF
pub data Scalar (x : ℕ) : Type 0 where
  low : x ≤ 0xD7FF → Scalar x
  high : 0xE000 ≤ x → x ≤ 0x10FFFF → Scalar x

range_held : (r : Range) (s : List ℕ) → Holds (λ (d : ℕ) (q : List ℕ). d ≤ r.high - r.low) (byte_in r s)
unfolding byte_in
range_held r [] = nothing
range_held r (b ∷ s) = go (within r b) refl
  where
    go : (t : Bool) → within r b ≡ t → Holds (λ (d : ℕ) (q : List ℕ). d ≤ r.high - r.low) (cond t (Some (b - r.low, s)) None)
    go true e =
        let h : b ≤ r.high = leb-true b r.high (both (leb r.low b) (leb b r.high) e).1 in
        let k : b - r.low ≤ r.high - r.low = omega arith in
        that k
    go false e = nothing

last_held : (n m : ℕ) (rs : List Range) (s : List ℕ) → n ≤ m → Holds (λ (x : ℕ) (q : List ℕ). x ≤ last_in m rs) (bytes_in n rs s)
unfolding bytes_in
last_held n m [] s h = that h
last_held n m (r ∷ rs) s h = and_next (range_held r s) λ d q k. last_held (n * 64 + d) (m * 64 + (r.high - r.low)) rs q (omega arith)

point_held : (c n m : ℕ) (rs : List Range) (s : List ℕ) → n ≤ m → Holds (λ (x : ℕ) (q : List ℕ). (c ≤ x) × (x ≤ c + last_in m rs)) (point_in c n rs s)
unfolding point_in
point_held c n m rs s h = and_next (last_held n m rs s h) λ x q k. that (omega arith, omega arith)

abbrev scalar_row : Row → Bool
scalar_row r = cond (leb (last_of r) 0xD7FF) true (leb 0xE000 r.first && leb (last_of r) 0x10FFFF)

abbrev scalars : List Row → Bool
scalars [] = true
scalars (r ∷ rows) = scalar_row r && scalars rows

module _ (r : Row) (x : ℕ) (l : r.first ≤ x) (u : x ≤ last_of r) where
  a_scalar : scalar_row r ≡ true → Scalar x
  a_scalar = go (leb (last_of r) 0xD7FF) refl
    where
      go : (t : Bool) → leb (last_of r) 0xD7FF ≡ t → cond t true (leb 0xE000 r.first && leb (last_of r) 0x10FFFF) ≡ true → Scalar x
      go true e h = let k : last_of r ≤ 0xD7FF = leb-true (last_of r) 0xD7FF e in low (omega arith)
      go false e h =
          let p = both (leb 0xE000 r.first) (leb (last_of r) 0x10FFFF) h in
          high (omega (arith, leb-true 0xE000 r.first p.0)) (omega (arith, leb-true (last_of r) 0x10FFFF p.1))

rows_held : (rows : List Row) (s : List ℕ) → scalars rows ≡ true → Holds (λ (x : ℕ) (q : List ℕ). Scalar x) (character_in rows s)
unfolding character_in
rows_held [] s h = nothing
rows_held (r ∷ rows) [] h = nothing
rows_held (r ∷ rows) (b ∷ s) h = go (within r.lead b) refl (rows_held rows (b ∷ s) (both (scalar_row r) (scalars rows) h).1)
  where
    go : (t : Bool) → within r.lead b ≡ t → Holds (λ (x : ℕ) (q : List ℕ). Scalar x) (character_in rows (b ∷ s)) → Holds (λ (x : ℕ) (q : List ℕ). Scalar x) (cond t (point_in r.first (b - r.lead.low) r.trail s) (character_in rows (b ∷ s)))
    go true e g =
        let k : b ≤ r.lead.high = leb-true b r.lead.high (both (leb r.lead.low b) (leb b r.lead.high) e).1 in
        weaker (λ x q f. a_scalar r x f.0 f.1 (both (scalar_row r) (scalars rows) h).0) (point_held r.first (b - r.lead.low) (r.lead.high - r.lead.low) r.trail s (omega arith))
    go false e g = g

-- every character is a Unicode scalar value
pub scalar_held : (s : List ℕ) → Holds (λ (x : ℕ) (q : List ℕ). Scalar x) (character s)
unfolding table
scalar_held s = rows_held table s refl
