-- Characters of a text, by the Unicode Standard's table of well-formed UTF-8 byte sequences (table 3-7), and file letters.
use Rattle.std.specs.Prelude.{ℕ, zero, suc, ◌+◌, ◌*◌, ◌-◌, List, [], ◌∷◌, Bool, ◌&&◌, cond, leb, eqb, length, Option, None, Some}
use Prim.Native.Char.{Char, code}
use Rattle.base.specs.Chars.{upper}
use Rattle.parser_spec.specs.Parts.{Part, then, ◌>>=◌, give, or_else, at_end, any_byte, one}

-- ---- one character
-- bytes from low to high
pub record Range : Type 0 where
  pub low : ℕ
  pub high : ℕ

infixl 80 ◌to◌
abbrev pub ◌to◌ : ℕ → ℕ → Range
◌to◌ a b = record { low = a; high = b }

abbrev pub within : Range → ℕ → Bool
within r b = leb r.low b && leb b r.high

-- a row of the table: the first of its code points, the range of the first byte, and the ranges of those behind it
pub record Row : Type 0 where
  pub first : ℕ
  pub lead : Range
  pub trail : List Range

abbrev pub row : ℕ → Range → List Range → Row
row c l t = record { first = c; lead = l; trail = t }

-- the table, row by row
unfoldable pub table : List Row
table =
    row 0x0000 (0x00 to 0x7F) []
    ∷ row 0x0080 (0xC2 to 0xDF) (0x80 to 0xBF ∷ [])
    ∷ row 0x0800 (0xE0 to 0xE0) (0xA0 to 0xBF ∷ 0x80 to 0xBF ∷ [])
    ∷ row 0x1000 (0xE1 to 0xEC) (0x80 to 0xBF ∷ 0x80 to 0xBF ∷ [])
    ∷ row 0xD000 (0xED to 0xED) (0x80 to 0x9F ∷ 0x80 to 0xBF ∷ [])
    ∷ row 0xE000 (0xEE to 0xEF) (0x80 to 0xBF ∷ 0x80 to 0xBF ∷ [])
    ∷ row 0x10000 (0xF0 to 0xF0) (0x90 to 0xBF ∷ 0x80 to 0xBF ∷ 0x80 to 0xBF ∷ [])
    ∷ row 0x40000 (0xF1 to 0xF3) (0x80 to 0xBF ∷ 0x80 to 0xBF ∷ 0x80 to 0xBF ∷ [])
    ∷ row 0x100000 (0xF4 to 0xF4) (0x80 to 0x8F ∷ 0x80 to 0xBF ∷ 0x80 to 0xBF ∷ [])
    ∷ []

-- a byte of a range, counted from its lowest
unfoldable pub byte_in : Range → Part ℕ
byte_in r [] = None
byte_in r (b ∷ s) = cond (within r b) (Some (b - r.low, s)) None

-- a byte for each range, behind the number n: the sequences of a row are counted in order, 64 to each byte behind the first
unfoldable pub bytes_in : ℕ → List Range → Part ℕ
bytes_in n [] = give n
bytes_in n (r ∷ rs) = do d ← byte_in r; bytes_in (n * 64 + d) rs

-- the code point: as far behind the row's first as the sequence is among the row's
unfoldable pub point_in : ℕ → ℕ → List Range → Part ℕ
point_in c n rs = do m ← bytes_in n rs; give (c + m)

-- the character that the row of the first byte gives
unfoldable pub character_in : List Row → Part ℕ
character_in [] s = None
character_in (r ∷ rows) [] = None
character_in (r ∷ rows) (b ∷ s) = cond (within r.lead b) (point_in r.first (b - r.lead.low) r.trail s) (character_in rows (b ∷ s))

-- "a character is a code point" (the protocol of document 02, of A2)
abbrev pub character : Part ℕ
character = character_in table

-- ---- a text of characters
-- what is said of the rest behind a character; where there is none, whether the text is at its end
abbrev pub onward : Option (ℕ × List ℕ) → List ℕ → (List ℕ → Bool) → Bool
onward None s k = at_end s
onward (Some x) s k = k x.1

-- characters one behind another up to the end, at most so many
unfoldable pub characters : ℕ → List ℕ → Bool
characters zero s = at_end s
characters (suc n) s = onward (character s) s (characters n)

-- A2: "a tag is well-formed UTF-8"; a character takes a byte or more, so that as many as there are bytes are enough
unfoldable pub well_formed : List ℕ → Bool
well_formed s = characters (length s) s

-- ---- file letters
-- what is read as a character, and the capital letter that one stands for where a file letter is read
pub record Alphabet : Type 0 where
  pub char : Part ℕ
  pub capital : ℕ → ℕ

-- A2: "U+0131 is an I and U+017F is an S where a file letter is read"; document 01: "Letters in either case."
abbrev pub capital : ℕ → ℕ
capital x = cond (eqb x 0x131) (code "I") (cond (eqb x 0x17F) (code "S") (upper x))

-- A2: "a tag is well-formed UTF-8"
abbrev pub utf8 : Alphabet
utf8 = record { char = character; capital = capital }

-- document 01, which stops at byte 127: a byte is a character; "Letters in either case."
abbrev pub bytewise : Alphabet
bytewise = record { char = any_byte; capital = upper }

module _ (alphabet : Alphabet) where
  -- a character that stands for this capital letter
  unfoldable pub letter_of : ℕ → Part (Unit {0})
  letter_of v = one alphabet.char (λ x. eqb (alphabet.capital x) v)

  abbrev pub letter : Char → Part (Unit {0})
  letter c = letter_of (code c)

  -- the value of the first letter that stands
  unfoldable pub first_of : {A : Type 0} → List (Char × A) → Part A
  first_of [] s = None
  first_of (x ∷ xs) s = or_else (then (letter x.0 s) (λ _. give x.1)) (first_of xs s)
