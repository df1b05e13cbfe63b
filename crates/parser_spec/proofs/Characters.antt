-- Laws of characters: what one leaves, which row gives it, a text of them step by step, bytes below 128; and of the letters that they stand for.
use Rattle.std.specs.Prelude.{Option, None, Some}
use Prim.Native.Nat.{ℕ, zero, suc, ◌+◌, ◌*◌, ◌-◌, ◌≤◌, ◌<◌}
use Prim.Native.Char.{Char}
use mathlib.Core.Path.{◌≡◌, refl, ap, ap₂, sym, subst, ◌∙◌}
use mathlib.Core.List.{List, [], ◌∷◌}
use mathlib.Core.Bool.{Bool, true, false, ◌&&◌, cond, and-false}
use native.Mathlib.Nat.{le_of_suc-le-suc, not-suc-le-zero}
use native.Mathlib.Omega.{arith}
use borrow.Author.Tests.{eq-eqb, ne_eqb, le-leb, lt-leb, leb-true, ltb-true}
use lib.Dec.{leb, ltb, eqb}
use lib.ListN.{length, drop, get_or}
use Rattle.base.specs.Chars.{upper}
use Rattle.base.proofs.EveryPlace.{both}
use Rattle.parser_spec.specs.Parts.{then, here, or_else, at_end, one}
use Rattle.parser_spec.specs.Characters.{Range, within, Row, row, table, byte_in, bytes_in, point_in, character_in, character, onward, characters, well_formed, Alphabet, capital, utf8, letter_of, letter, first_of}
use Rattle.parser_spec.proofs.Held.{Holds, nothing, that, weaker, and_any, or_held, held_of, Read, one_held, no_some}
use Rattle.parser_spec.proofs.Behind.{Leaves, behind_drop, further, then_leaves, give_leaves, one_leaves}
use Rattle.parser_spec.proofs.Written.{behind_same, one_read}

-- ---- what a character leaves
pub tested : {A : Type 0} {P : A → List ℕ → Type 0} (t : Bool) {x y : Option (A × List ℕ)} → Holds P x → Holds P y → Holds P (cond t x y)
tested true f g = f
tested false f g = g

pub byte_in_leaves : (r : Range) (s : List ℕ) → Leaves s (byte_in r s)
unfolding byte_in
byte_in_leaves r [] = nothing
byte_in_leaves r (b ∷ s) = tested (within r b) (further (behind_drop 1 (b ∷ s) (omega arith)) (give_leaves s)) nothing

bytes_leaves : (n : ℕ) (rs : List Range) (s : List ℕ) → Leaves s (bytes_in n rs s)
unfolding bytes_in
bytes_leaves n [] s = give_leaves s
bytes_leaves n (r ∷ rs) s = then_leaves (byte_in_leaves r s) λ d q. bytes_leaves (n * 64 + d) rs q

point_leaves : (c n : ℕ) (rs : List Range) (s : List ℕ) → Leaves s (point_in c n rs s)
unfolding point_in
point_leaves c n rs s = then_leaves (bytes_leaves n rs s) λ m r. give_leaves r

-- the first byte is read
pub lead_read : (rows : List Row) (b : ℕ) (s : List ℕ) → Leaves s (character_in rows (b ∷ s))
unfolding character_in
lead_read [] b s = nothing
lead_read (r ∷ rows) b s = tested (within r.lead b) (point_leaves _ _ _ s) (lead_read rows b s)

pub character_leaves : (s : List ℕ) → Leaves s (character s)
unfolding character_in table
character_leaves [] = nothing
character_leaves (b ∷ s) = further (behind_drop 1 (b ∷ s) (omega arith)) (lead_read table b s)

module _ (a : Alphabet) (leaves : (s : List ℕ) → Leaves s (a.char s)) where
  pub letter_by_leaves : (v : ℕ) (s : List ℕ) → Leaves s (letter_of a v s)
  unfolding letter_of
  letter_by_leaves v s = one_leaves a.char leaves _ s

  pub first_by_leaves : {A : Type 0} (xs : List (Char × A)) (s : List ℕ) → Leaves s (first_of a xs s)
  unfolding first_of
  first_by_leaves [] s = nothing
  first_by_leaves (x ∷ xs) s = or_held (then_leaves (letter_by_leaves _ s) λ u r. give_leaves r) (first_by_leaves xs s)

pub letter_leaves : (v : ℕ) (s : List ℕ) → Leaves s (letter_of utf8 v s)
letter_leaves v s = letter_by_leaves utf8 character_leaves v s

pub first_leaves : {A : Type 0} (xs : List (Char × A)) (s : List ℕ) → Leaves s (first_of utf8 xs s)
first_leaves xs s = first_by_leaves utf8 character_leaves xs s

-- ---- two texts in which the same letters stand first, by alphabets of theirs
pub first_by : {A : Type 0} (a b : Alphabet) (s t : List ℕ) → ((v : ℕ) → letter_of a v s ≡ letter_of b v t) → (xs : List (Char × A)) → first_of a xs s ≡ first_of b xs t
unfolding first_of
first_by a b s t f [] = refl
first_by {A} a b s t f (x ∷ xs) = ap₂ (or_else {A = A}) (behind_same _ (f _)) (first_by a b s t f xs)

-- ---- what holds of what is read, and what was written
abbrev pub AllOf : {X : Type 0} → (X → Type 0) → List (Char × X) → Type 0
AllOf P [] = Unit {0}
AllOf P (x ∷ xs) = P x.1 × AllOf P xs

module _ (alphabet : Alphabet) where
  pub letter_held : (v : ℕ) (s : List ℕ) → Holds (λ (u : Unit {0}) (r : List ℕ). Read alphabet.char (λ x. eqb (alphabet.capital x) v) s r) (letter_of alphabet v s)
  unfolding letter_of
  letter_held v s = one_held alphabet.char _ s

  pub letter_read : (v x : ℕ) {s r : List ℕ} → alphabet.char s ≡ Some (x, r) → alphabet.capital x ≡ v → letter_of alphabet v s ≡ Some (tt, r)
  unfolding letter_of
  letter_read v x e h = one_read alphabet.char _ x e (eq-eqb _ _ h)

  module _ {A : Type 0} (c : Char) (a : A) (xs : List (Char × A)) (t : List ℕ) where
    pub first_read : {s : List ℕ} → letter alphabet c t ≡ Some (tt, s) → first_of alphabet ((c, a) ∷ xs) t ≡ Some (a, s)
    unfolding first_of or_else then
    first_read e = rw e

    pub first_past : letter alphabet c t ≡ None → first_of alphabet ((c, a) ∷ xs) t ≡ first_of alphabet xs t
    unfolding first_of or_else then
    first_past e = rw e

  module _ {X : Type 0} where
    pub first_held : (P : X → Type 0) (xs : List (Char × X)) → AllOf P xs → (s : List ℕ) → Holds (λ (t : X) (r : List ℕ). P t) (first_of alphabet xs s)
    unfolding first_of
    first_held P [] h s = nothing
    first_held P (x ∷ xs) h s = or_held (and_any (letter alphabet x.0 s) λ v r. that h.0) (first_held P xs h.1 s)

-- ---- a text of characters
pub formed_none : (s : List ℕ) → character s ≡ None → well_formed s ≡ at_end s
unfolding well_formed characters
formed_none [] e = refl
formed_none (b ∷ s) e = rw e

-- as many as there are bytes are enough
enough : (n m : ℕ) (s : List ℕ) → length s ≤ n → length s ≤ m → characters n s ≡ characters m s
unfolding characters character_in table
enough zero zero s h k = refl
enough zero (suc m) [] h k = refl
enough zero (suc m) (b ∷ s) h k = absurd (omega arith)
enough (suc n) zero [] h k = refl
enough (suc n) zero (b ∷ s) h k = absurd (omega arith)
enough (suc n) (suc m) [] h k = refl
enough (suc n) (suc m) (b ∷ s) h k = go (lead_read table b s) (λ r l. enough n m r (omega arith) (omega arith))
  where
    go : {z : Option (ℕ × List ℕ)} → Leaves s z → ((r : List ℕ) → length r ≤ length s → characters n r ≡ characters m r) → onward z (b ∷ s) (characters n) ≡ onward z (b ∷ s) (characters m)
    go nothing f = refl
    go (that q) f = f _ q.shorter

pub formed_next : (s : List ℕ) (x : ℕ) (r : List ℕ) → character s ≡ Some (x, r) → well_formed s ≡ well_formed r
unfolding well_formed characters character_in table
formed_next [] x r e = no_some e
formed_next (b ∷ s) x r e = rw e (enough (length s) (length r) r (held_of (lead_read table b s) e).shorter (omega arith))

-- ---- which row gives a character: the one whose first byte it is
-- the first bytes of the rows lie above h
abbrev above : ℕ → List Row → Bool
above h [] = true
above h (r ∷ rows) = ltb h r.lead.low && above h rows

-- the rows ascend by their first bytes, and no two have one in common
abbrev apart : List Row → Bool
apart [] = true
apart (r ∷ rows) = above r.lead.high rows && apart rows

above_at : (h : ℕ) (rows : List Row) (k : ℕ) (d : Row) → above h rows ≡ true → k < length rows → h < (get_or rows k d).lead.low
above_at h [] k d a l = absurd (not-suc-le-zero l)
above_at h (r ∷ rows) zero d a l = ltb-true _ _ (both (ltb h r.lead.low) (above h rows) a).0
above_at h (r ∷ rows) (suc k) d a l = above_at h rows k d (both (ltb h r.lead.low) (above h rows) a).1 (le_of_suc-le-suc l)

abbrev no_row : Row
no_row = row 0 (record { low = 0; high = 0 }) []

abbrev pub row_at : ℕ → Row
row_at k = get_or table k no_row

-- the first bytes of the rows lie below h
abbrev below : ℕ → List Row → Bool
below h [] = true
below h (r ∷ rows) = ltb r.lead.high h && below h rows

-- the rows of code points above U+007F
abbrev far_rows : List Row → Bool
far_rows [] = true
far_rows (r ∷ rows) = leb 128 r.first && far_rows rows

module _ (b : ℕ) (s : List ℕ) where
  past_row : (r : Row) (rows : List Row) → r.lead.high < b → character_in (r ∷ rows) (b ∷ s) ≡ character_in rows (b ∷ s)
  unfolding character_in
  past_row r rows h = rw (lt-leb _ _ h, and-false)

  row_of : (rows : List Row) (k : ℕ) (d : Row) → apart rows ≡ true → k < length rows → (get_or rows k d).lead.low ≤ b → b ≤ (get_or rows k d).lead.high
      → character_in rows (b ∷ s) ≡ point_in (get_or rows k d).first (b - (get_or rows k d).lead.low) (get_or rows k d).trail s
  unfolding character_in
  row_of [] k d a l u v = absurd (not-suc-le-zero l)
  row_of (r ∷ rows) zero d a l u v = rw (le-leb _ _ u, le-leb _ _ v)
  row_of (r ∷ rows) (suc k) d a l u v =
      let p = both (above r.lead.high rows) (apart rows) a in
      past_row r rows (omega (arith, above_at r.lead.high rows k d p.0 (le_of_suc-le-suc l))) ∙ row_of rows k d p.1 (le_of_suc-le-suc l) u v

  under_rows : (rows : List Row) (h : ℕ) → above h rows ≡ true → b ≤ h → character_in rows (b ∷ s) ≡ None
  unfolding character_in
  under_rows [] h a l = refl
  under_rows (r ∷ rows) h a l =
      let p = both (ltb h r.lead.low) (above h rows) a in
      rw (lt-leb r.lead.low b (omega (arith, ltb-true h r.lead.low p.0))) (under_rows rows h p.1 l)

  over_rows : (rows : List Row) (h : ℕ) → below h rows ≡ true → h ≤ b → character_in rows (b ∷ s) ≡ None
  unfolding character_in
  over_rows [] h a l = refl
  over_rows (r ∷ rows) h a l =
      let p = both (ltb r.lead.high h) (below h rows) a in
      past_row r rows (omega (arith, ltb-true r.lead.high h p.0)) ∙ over_rows rows h p.1 l

  -- between the first row and the second, and behind the last
  pub no_row_lem : 0x80 ≤ b → b ≤ 0xC1 → character (b ∷ s) ≡ None
  unfolding table
  no_row_lem l h = past_row _ _ l ∙ under_rows _ 0xC1 refl h

  pub no_more : 0xF5 ≤ b → character (b ∷ s) ≡ None
  unfolding table
  no_more l = over_rows _ 0xF5 refl l

  pub in_row : (k : ℕ) → k < 9 → (row_at k).lead.low ≤ b → b ≤ (row_at k).lead.high → character (b ∷ s) ≡ point_in (row_at k).first (b - (row_at k).lead.low) (row_at k).trail s
  unfolding table
  in_row k l u v = row_of table k no_row refl l u v

  -- a byte above 127 begins a character above U+007F
  least_held : (c n : ℕ) (rs : List Range) → Holds (λ (x : ℕ) (r : List ℕ). c ≤ x) (point_in c n rs s)
  unfolding point_in
  least_held c n rs = and_any _ λ m r. that (omega arith)

  far_held : (rows : List Row) → far_rows rows ≡ true → Holds (λ (x : ℕ) (r : List ℕ). 128 ≤ x) (character_in rows (b ∷ s))
  unfolding character_in
  far_held [] a = nothing
  far_held (r ∷ rows) a =
      let p = both (leb 128 r.first) (far_rows rows) a in
      tested (within r.lead b) (weaker (λ x q h. omega (arith, leb-true 128 r.first p.0)) (least_held r.first (b - r.lead.low) r.trail)) (far_held rows p.1)

  pub far : 128 ≤ b → Holds (λ (x : ℕ) (r : List ℕ). 128 ≤ x) (character (b ∷ s))
  unfolding table
  far h = subst (Holds (λ (x : ℕ) (r : List ℕ). 128 ≤ x)) (sym (past_row _ _ h)) (far_held (drop 1 table) refl)

  -- a byte below 128 is a character by itself
  pub small_character : b < 128 → character (b ∷ s) ≡ Some (b, s)
  unfolding point_in bytes_in then table
  small_character h = in_row 0 (omega arith) (omega arith) (omega arith) ∙ ap (λ (x : ℕ). Some (x, s)) (omega arith)

-- ---- the capital letters of characters
-- only two characters stand for another letter than in document 01
pub other_capital : (x : ℕ) → (x ≡ 0x131 → ⊥) → (x ≡ 0x17F → ⊥) → capital x ≡ upper x
other_capital x d l = simp (ne_eqb x 0x131 d, ne_eqb x 0x17F l)

pub small_capital : (x : ℕ) → x < 128 → capital x ≡ upper x
small_capital x h = other_capital x (λ e. omega arith) (λ e. omega arith)

-- C4 B1 is an I, C5 BF an S
pub dotless_i : (s : List ℕ) → letter utf8 "I" (0xC4 ∷ 0xB1 ∷ s) ≡ Some (tt, s)
unfolding letter_of one then here character_in table point_in bytes_in byte_in
dotless_i s = refl

pub long_s : (s : List ℕ) → letter utf8 "S" (0xC5 ∷ 0xBF ∷ s) ≡ Some (tt, s)
unfolding letter_of one then here character_in table point_in bytes_in byte_in
long_s s = refl
