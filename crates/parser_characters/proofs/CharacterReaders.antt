-- Laws by which the readers of characters are proved: each says what a part gives from what the reader met.
use Rattle.std.specs.Prelude.{Option, None, Some}
use Rattle.std.specs.Prelude.{map}
use lib.Seq.{drop-cons}
use Prim.Native.Nat.{zero, suc, ◌^◌, ℕ, ◌+◌, ◌*◌, ◌-◌, ◌≤◌, ◌<◌}
use mathlib.Core.Path.{◌≡◌, refl, sym, ◌∙◌}
use mathlib.Core.List.{List, [], ◌∷◌}
use mathlib.Core.Bool.{Bool, true, false, cond}
use native.Mathlib.Nat.{pow-suc, mul_assoc, mul-le-mul_left, mul-le-mul_right}
use native.Mathlib.Numerals.{add-one}
use native.Mathlib.Omega.{arith}
use borrow.Author.Tests.{leb-true, leb-false, eq-eqb, ne_eqb}
use lib.Dec.{leb, eqb}
use lib.ListN.{length, drop, get_or, drop_of_length-le, length-drop}
use Rattle.base.specs.Chars.{upper}
use Rattle.base.proofs.Chars.{letter_high}
use Rattle.base.proofs.Parts.{drop_next}
use Rattle.parser_spec.specs.Parts.{then, here, at_end, any_byte, one}
use Rattle.parser_spec.specs.Characters.{Range, ◌to◌, within, table, byte_in, bytes_in, point_in, character_in, character, well_formed, capital, utf8, letter_of}
use Rattle.parser_spec.proofs.Held.{Holds, nothing, that, held_of}
use Rattle.parser_spec.proofs.Characters.{byte_in_leaves, character_leaves, lead_read, row_at, in_row, no_row_lem, no_more, far, small_character, small_capital, formed_none, formed_next}
use Rattle.parser_spec.proofs.Written.{step, stop}
use Rattle.parser.specs.CursorAnswers.{placed, place_of}
use Rattle.parser.specs.declared.Cur.{Cur}
use Rattle.parser.proofs.PartReaders.{Reads, a_read, no_read, no_place, none_read, some_read, stop_read, placed_on, give_at, one_none, one_is, one_not, any_here}

-- ---- what the part gave by what the reader of a character answered
module _ (s : List ℕ) (i : ℕ) (r : Option (ℕ × Cur)) (e : r ≡ placed i s (character (drop i s))) where
  none_character : r ≡ None → character (drop i s) ≡ None
  none_character g = none_read s i _ r e g

  pub some_character : (x : ℕ) (c : Cur) → r ≡ Some (x, c) → Reads s i (character (drop i s)) x c
  some_character x c g = some_read s i r x c e g (character_leaves (drop i s))

-- ---- a byte behind the first one
-- where one is left the text begins with it, and where none is left it is empty
pub the_byte : (s : List ℕ) (i : ℕ) → drop i s ≡ cond (leb (length s) i) [] (get_or s i 0 ∷ drop (i + 1) s)
the_byte s i = go (leb (length s) i) refl
  where
    go : (t : Bool) → leb (length s) i ≡ t → drop i s ≡ cond t [] (get_or s i 0 ∷ drop (i + 1) s)
    go true e = drop_of_length-le s (leb-true _ _ e)
    go false e = drop_next s i (leb-false _ _ e)

-- what follows a byte that stands there, or doesn't
module _ (s : List ℕ) (i first n : ℕ) (r : Range) (rs : List Range) (w q : Option (ℕ × Cur)) (e : w ≡ placed i s (byte_in r (drop i s))) where
  pub no_byte : w ≡ None → q ≡ None → q ≡ placed i s (point_in first n (r ∷ rs) (drop i s))
  unfolding point_in bytes_in
  no_byte g h = no_read s i _ q h (stop _ (stop_read s i _ w _ e g))

  pub more_bytes : (a m : ℕ) (c : Cur) → w ≡ Some (a, c) → m ≡ n * 64 + a → q ≡ placed c.i s (point_in first m rs (drop c.i s)) → q ≡ placed i s (point_in first n (r ∷ rs) (drop i s))
  unfolding point_in bytes_in then
  more_bytes a m c g l h = let o = some_read s i w a c e g (byte_in_leaves r (drop i s)) in placed_on s i q _ _ o (rw (o.is, l)) h

-- the bytes that are left of those behind the first one
abbrev pub ranges : List (ℕ × ℕ) → List Range
ranges l = map (λ r. r.0 to r.1) l

module _ (s : List ℕ) (i first n : ℕ) (l : List (ℕ × ℕ)) (j : ℕ) where
  left : ℕ → Option (ℕ × Cur)
  left k = placed i s (point_in first n (ranges (drop k l)) (drop i s))

  module _ (d : ℕ × ℕ) (h : j < length l) (w : Option (ℕ × Cur)) (e : w ≡ placed i s (byte_in ((get_or l j d).0 to (get_or l j d).1) (drop i s))) where
    next_left : drop j l ≡ get_or l j d ∷ drop (j + 1) l
    next_left = rw add-one (drop-cons l j d h)

    pub behind_none : (q : Option (ℕ × Cur)) → w ≡ None → q ≡ None → q ≡ placed i s (point_in first n (ranges (drop j l)) (drop i s))
    behind_none q g k = rw next_left (no_byte s i first n _ (ranges (drop (j + 1) l)) w q e g k)

    pub behind_more : (a m : ℕ) (c : Cur) → w ≡ Some (a, c) → m ≡ n * 64 + a → placed c.i s (point_in first m (ranges (drop (j + 1) l)) (drop c.i s)) ≡ placed i s (point_in first n (ranges (drop j l)) (drop i s))
    behind_more a m c g k = rw next_left (more_bytes s i first n _ (ranges (drop (j + 1) l)) w _ e a m c g k refl)

  pub behind_all : length l ≤ j → Some (first + n, record { i = i }) ≡ placed i s (point_in first n (ranges (drop j l)) (drop i s))
  unfolding point_in bytes_in then
  behind_all h = rw (drop_of_length-le l h) (give_at s (first + n) (record { i = i }))

-- their number stays small enough
power_pos : (k : ℕ) → 1 ≤ 64 ^ k
power_pos zero = omega arith
power_pos (suc k) = let e : 64 ^ suc k ≡ 64 ^ k * 64 = pow-suc 64 k in omega (arith, power_pos k)

module _ (k n : ℕ) (b : 64 ^ k * (n + 5) ≤ 1073741824) where
  pub number_small : n + 5 ≤ 1073741824
  number_small = omega (arith, mul-le-mul_right (n + 5) (power_pos k))

pub number_more : (k j n a m : ℕ) → k ≡ suc j → a < 256 → m ≡ n * 64 + a → 64 ^ k * (n + 5) ≤ 1073741824 → (64 ^ j * (m + 5) ≤ 1073741824) × (n * 64 + a < 4294967296)
number_more k j n a m f h g b =
    let e : 64 ^ k * (n + 5) ≡ 64 ^ j * (64 * (n + 5)) = rw (f, pow-suc) (mul_assoc (64 ^ j) 64 (n + 5)) in
    let u : 64 ^ j * (m + 5) ≤ 64 ^ j * (64 * (n + 5)) = mul-le-mul_left (64 ^ j) (omega arith) in
    let v : 1 * (64 * (n + 5)) ≤ 64 ^ j * (64 * (n + 5)) = mul-le-mul_right (64 * (n + 5)) (power_pos j) in
    (omega arith, omega arith)

-- ---- the first byte, and its row
module _ (s : List ℕ) (i : ℕ) where
  past_end : length s ≤ i → character (drop i s) ≡ None
  unfolding character_in table
  past_end h = rw (drop_of_length-le s h)

  pub small_reads : i < length s → get_or s i 0 < 128 → Reads s i (character (drop i s)) (get_or s i 0) (record { i = i + 1 })
  small_reads h l = record { is = rw (drop_next s i h) (small_character _ _ l); end = omega arith }

  pub character_end : length s ≤ i → None ≡ placed i s (character (drop i s))
  character_end h = no_read s i _ None refl (past_end h)

  module _ (h : i < length s) where
    pub small : (b : ℕ) → b ≡ get_or s i 0 → b < 128 → Some (b, record { i = i + 1 }) ≡ placed i s (character (drop i s))
    small b e l = rw e (a_read s i _ _ _ (small_reads h (omega arith)))

    pub between : 0x80 ≤ get_or s i 0 → get_or s i 0 < 0xC2 → None ≡ placed i s (character (drop i s))
    between l u = no_read s i _ None refl (rw (drop_next s i h) (no_row_lem _ _ l (omega arith)))

    pub behind : 0xF3 < get_or s i 0 → (get_or s i 0 ≡ 0xF4 → ⊥) → None ≡ placed i s (character (drop i s))
    behind l n = no_read s i _ None refl (rw (drop_next s i h) (no_more _ _ (omega arith)))

    pub by_row : (k n : ℕ) (q : Option (ℕ × Cur)) → k < 9 → (row_at k).lead.low + n ≡ get_or s i 0 → get_or s i 0 ≤ (row_at k).lead.high
        → q ≡ placed (i + 1) s (point_in (row_at k).first n (row_at k).trail (drop (i + 1) s)) → q ≡ placed i s (character (drop i s))
    by_row k n q l e u g =
        let m : get_or s i 0 - (row_at k).lead.low ≡ n = omega arith in
        let z : character (drop i s) ≡ point_in (row_at k).first n (row_at k).trail (drop (i + 1) s) = rw (drop_next s i h, in_row _ _ k l (omega arith) u, m) in
        let o : Reads s i (any_byte (drop i s)) (get_or s i 0) (record { i = i + 1 }) = any_here s i h in placed_on s i q _ _ o z g

-- ---- a text of characters
module _ (s : List ℕ) (i : ℕ) (inv : well_formed (drop i s) ≡ well_formed s) where
  pub formed_end : length s ≤ i → true ≡ well_formed s
  unfolding well_formed Rattle.parser_spec.specs.Characters.characters at_end
  formed_end h = rw (drop_of_length-le s h) at inv

  module _ (h : i < length s) where
    pub formed_small : get_or s i 0 < 128 → well_formed (drop (i + 1) s) ≡ well_formed s
    formed_small l = sym (formed_next (drop i s) (get_or s i 0) (drop (i + 1) s) (small_reads s i h l).is) ∙ inv

    module _ (r : Option (ℕ × Cur)) (e : r ≡ placed i s (character (drop i s))) where
      pub formed_stop : r ≡ None → false ≡ well_formed s
      unfolding at_end
      formed_stop g = rw (drop_next s i h) at (sym (formed_none (drop i s) (none_character s i r e g)) ∙ inv)

      pub formed_more : (x : ℕ) (c : Cur) → r ≡ Some (x, c) → well_formed (drop c.i s) ≡ well_formed s
      formed_more x c g = sym (formed_next (drop i s) x (drop c.i s) (some_character s i r e x c g).is) ∙ inv

      pub formed_less : (x : ℕ) (c : Cur) → r ≡ Some (x, c) → length s - c.i < length s - i
      formed_less x c g =
          let q : character_in table (get_or s i 0 ∷ drop (i + 1) s) ≡ Some (x, drop c.i s) = rw (drop_next s i h) at (some_character s i r e x c g).is in
          omega (arith, (held_of (lead_read table (get_or s i 0) (drop (i + 1) s)) q).shorter, length-drop c.i s, length-drop (i + 1) s)

pub ruleset forming = (formed_end, formed_stop, formed_more, formed_less)

-- ---- one character that passes a test: there is none
module _ (test : ℕ → Bool) (s : List ℕ) (i : ℕ) where
  pub none_left : length s ≤ i → None ≡ place_of (placed i s (one character test (drop i s)))
  none_left h = one_none character test s i None refl (past_end s i h)

  pub none_there : (r : Option (ℕ × Cur)) (q : Option Cur) → r ≡ placed i s (character (drop i s)) → r ≡ None → q ≡ None → q ≡ place_of (placed i s (one character test (drop i s)))
  none_there r q e g h = one_none character test s i q h (none_character s i r e g)

-- ---- file letters
-- what stands below 128, or above it
far_upper : (x : ℕ) → 128 ≤ x → upper x ≡ x
far_upper x h = sym (letter_high true x refl (omega arith))

small_upper : (x : ℕ) → upper x < 128 → x < 128
small_upper x h = go (leb 128 x) refl
  where
    go : (t : Bool) → leb 128 x ≡ t → x < 128
    go true e = let f : 128 ≤ x = leb-true 128 x e in absurd (omega (arith, far_upper x f))
    go false e = leb-false 128 x e

far_capital : (x v : ℕ) → 128 ≤ x → v < 128 → (v ≡ 73 → ⊥) → (v ≡ 83 → ⊥) → capital x ≡ v → ⊥
far_capital x v h k m n = go (eqb x 0x131) (eqb x 0x17F)
  where
    go : (a b : Bool) → cond a 73 (cond b 83 (upper x)) ≡ v → ⊥
    go true b e = m (sym e)
    go false true e = n (sym e)
    go false false e = omega (arith, far_upper x h)

module _ (s : List ℕ) (i v : ℕ) where
  abbrev found : Option Cur
  found = place_of (placed i s (letter_of utf8 v (drop i s)))

  pub letter_end : length s ≤ i → None ≡ found
  unfolding letter_of
  letter_end h = none_left _ s i h

  module _ (b : ℕ) (h : i < length s) (g : b ≡ upper (get_or s i 0)) where
    up : get_or s i 0 < 128 → b ≡ capital (get_or s i 0)
    up l = g ∙ sym (small_capital _ l)

    pub letter_here : v < 128 → b ≡ v → Some (record { i = i + 1 }) ≡ found
    unfolding letter_of
    letter_here k e = let l = small_upper (get_or s i 0) (omega arith) in one_is character _ s i _ (record { i = i + 1 }) (small_reads s i h l) (eq-eqb _ _ (sym (up l) ∙ e))

    pub letter_not : get_or s i 0 < 128 → (b ≡ v → ⊥) → None ≡ found
    unfolding letter_of
    letter_not l e = one_not character _ s i _ (record { i = i + 1 }) (small_reads s i h l) (ne_eqb _ _ (λ (y : capital (get_or s i 0) ≡ v). e (up l ∙ y)))

  -- no other letter than I and S has a form above U+007F
  pub letter_other : i < length s → v < 128 → 128 ≤ get_or s i 0 → (v ≡ 73 → ⊥) → (v ≡ 83 → ⊥) → None ≡ found
  unfolding letter_of one here
  letter_other h k l m n = no_place s i _ None refl (rw (drop_next s i h) (past (far (get_or s i 0) (drop (i + 1) s) l)))
    where
      past : {z : Option (ℕ × List ℕ)} → Holds (λ (x : ℕ) (r : List ℕ). 128 ≤ x) z → then z (λ x. here (eqb (capital x) v)) ≡ None
      past nothing = stop _ refl
      past (that {v = x} {r = r} f) = step _ refl ∙ rw (ne_eqb (capital x) v (far_capital x v f k m n))

  module _ (r : Option (ℕ × Cur)) (e : r ≡ placed i s (character (drop i s))) where
    pub letter_none : (q : Option Cur) → r ≡ None → q ≡ None → q ≡ found
    unfolding letter_of
    letter_none q g h = none_there _ s i r q e g h

    module _ (x y : ℕ) (c : Cur) (g : r ≡ Some (x, c)) (f : y ≡ capital x) where
      pub letter_is : y ≡ v → Some c ≡ found
      unfolding letter_of
      letter_is q = one_is character _ s i x c (some_character s i r e x c g) (eq-eqb _ _ (sym f ∙ q))

      pub letter_isnt : (y ≡ v → ⊥) → None ≡ found
      unfolding letter_of
      letter_isnt q = one_not character _ s i x c (some_character s i r e x c g) (ne_eqb _ _ (λ (z : capital x ≡ v). q (f ∙ z)))

-- a file letter by its byte, and by the character that stands there
pub ruleset letters = (letter_end, letter_here, letter_not, letter_other)

pub ruleset one_letter = (letter_none, letter_is, letter_isnt)
