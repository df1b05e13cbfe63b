-- Values into the bytes of one element (document 01, "Element access" and module 2).
use Rattle.std.specs.Prelude.{ℕ, ◌+◌, ◌-◌, ◌*◌, ◌≡◌, Bool, ◌&&◌, cond, List, ◌++◌, leb, ltb, ℤ, length, take, drop, Result, Ok, Err, Option, None, Some}
use Rattle.base.specs.declared.refusal.Refusal.{Refusal}
use Rattle.base.specs.declared.refusal.Refusal.TheVariants.{NoSuchElement, UnsuitableKind, UnknownField, NumberOutOfRange, LongText}
use Rattle.base.specs.Masks.{mix, bit_mask}
use Rattle.base.specs.Numbers.{low_first, number}
use Rattle.base.specs.Outcome.{Outcome, refused, lays, left}
use Rattle.file_type.specs.declared.FileType.{FileType}
use Rattle.file_type.specs.declared.FileType.TheVariants.{O, I, S, B, T, C, R, N, F, ST, A, L, MG, PD, PLS}
use Rattle.file_type.specs.declared.Field.{Field}
use Rattle.file_type.specs.declared.Field.TheVariants as field
use Rattle.file_type.specs.Table.{row, of_field}
use Rattle.element_text.specs.Text.{ascii_text, string_text}
use Rattle.element_spec.specs.declared.kind.ElementKind.{ElementKind}
use Rattle.element_spec.specs.declared.kind.ElementKind.TheVariants as kind
use Rattle.element_spec.specs.declared.Value.{Value}
use Rattle.element_spec.specs.declared.Value.TheVariants as value
use Rattle.element_whole.specs.Whole.{in_range, twos, is_zero}

-- "A whole number suits O, I, S, B, N and L; float bits F; text A and ST; three whole numbers or one named field T, C and R."
-- Nothing suits MG, PD and PLS.
abbrev pub kind_of : FileType → ElementKind
kind_of O = kind.Word
kind_of I = kind.Word
kind_of S = kind.Word
kind_of B = kind.Word
kind_of T = kind.Fields
kind_of C = kind.Fields
kind_of R = kind.Fields
kind_of N = kind.Word
kind_of F = kind.Float
kind_of ST = kind.Line
kind_of A = kind.Ascii
kind_of L = kind.Long
kind_of MG = kind.Other
kind_of PD = kind.Other
kind_of PLS = kind.Other

-- 22: is the number in range? A number of k bytes, stored from a place on
abbrev pub whole_at : ℕ → ℕ → ℕ → ℕ → ℕ → ℤ → Outcome
whole_at at k ones low high z = cond (in_range low high z) (lays at (low_first k (twos ones z))) (refused NumberOutOfRange)

-- "Whole numbers −32768 to 65535 for words"
abbrev pub word_of : ℤ → Outcome
word_of z = whole_at 0 2 0xFFFF 32768 65535 z

-- "32-bit signed for L"
abbrev pub long_of : ℤ → Outcome
long_of z = whole_at 0 4 0xFFFFFFFF 2147483648 2147483647 z

-- "and for the three words of T, C, R": where one is out of range, none is stored
abbrev pub words_of : ℤ → ℤ → ℤ → Outcome
words_of x y z =
    cond (in_range 32768 65535 x && (in_range 32768 65535 y && in_range 32768 65535 z))
    (lays 0 (low_first 2 (twos 0xFFFF x) ++ (low_first 2 (twos 0xFFFF y) ++ low_first 2 (twos 0xFFFF z))))
    (refused NumberOutOfRange)

-- "float bits kept"
abbrev pub float_of : ℕ → Outcome
float_of b = lays 0 (low_first 4 b)

abbrev pub ascii_of : List ℕ → Outcome
ascii_of text = lays 0 (ascii_text text)

-- 23: is text for ST at most 82 bytes?
abbrev pub line_of : List ℕ → Outcome
line_of text = cond (leb (length text) 82) (lays 0 (string_text text)) (refused LongText)

-- "bits, set by any number but 0": word 0 with this bit of it set or cleared
abbrev pub bit_of : ℕ → Bool → List ℕ → Outcome
bit_of b clear old = lays 0 (low_first 2 (mix 0xFFFF (bit_mask b) (number (take 2 (drop 0 old))) (cond clear 0 (bit_mask b))))

-- 21: is the field name known? "words 1 and 2 .. −32768 to 32767; bits .. from 15 down"
abbrev pub field_of : Option Field → ℤ → List ℕ → Outcome
field_of None z old = refused UnknownField
field_of (Some (field.Word i)) z old = whole_at (2 + 2 * i) 2 0xFFFF 32768 32767 z
field_of (Some (field.Bit i)) z old = bit_of (15 - i) (is_zero z) old

abbrev pub named_of : FileType → List ℕ → List ℕ → ℤ → Outcome
named_of t name old z = field_of (of_field t name) z old

-- 20: does the kind of value suit the type? `old` are the bytes of the element, `text` is the text or the field's name
abbrev pub on_whole : Value → (ℤ → Outcome) → Outcome
on_whole (value.Whole z) f = f z
on_whole (value.Float b) f = refused UnsuitableKind
on_whole value.Text f = refused UnsuitableKind
on_whole (value.Words x y z) f = refused UnsuitableKind
on_whole (value.Field z) f = refused UnsuitableKind

abbrev pub on_float : Value → (ℕ → Outcome) → Outcome
on_float (value.Whole z) f = refused UnsuitableKind
on_float (value.Float b) f = f b
on_float value.Text f = refused UnsuitableKind
on_float (value.Words x y z) f = refused UnsuitableKind
on_float (value.Field z) f = refused UnsuitableKind

abbrev pub on_text : Value → Outcome → Outcome
on_text (value.Whole z) o = refused UnsuitableKind
on_text (value.Float b) o = refused UnsuitableKind
on_text value.Text o = o
on_text (value.Words x y z) o = refused UnsuitableKind
on_text (value.Field z) o = refused UnsuitableKind

abbrev pub on_fields : Value → (ℤ → ℤ → ℤ → Outcome) → (ℤ → Outcome) → Outcome
on_fields (value.Whole z) f g = refused UnsuitableKind
on_fields (value.Float b) f g = refused UnsuitableKind
on_fields value.Text f g = refused UnsuitableKind
on_fields (value.Words x y z) f g = f x y z
on_fields (value.Field z) f g = g z

abbrev pub encode_as : ElementKind → FileType → Value → List ℕ → List ℕ → Outcome
encode_as kind.Word t v text old = on_whole v word_of
encode_as kind.Long t v text old = on_whole v long_of
encode_as kind.Float t v text old = on_float v float_of
encode_as kind.Ascii t v text old = on_text v (ascii_of text)
encode_as kind.Line t v text old = on_text v (line_of text)
encode_as kind.Fields t v text old = on_fields v words_of (named_of t text old)
encode_as kind.Other t v text old = refused UnsuitableKind

-- 19: are so many bytes there?
abbrev pub of_bytes : ℕ → List ℕ → Outcome → Outcome
of_bytes n bytes o = cond (ltb (length bytes) n) (refused NoSuchElement) o

unfoldable pub encoded : FileType → Value → List ℕ → List ℕ → Outcome
encoded t v text bytes = of_bytes (row t).size bytes (encode_as (kind_of t) t v text bytes)

-- what the call answers
abbrev pub stored_of : Outcome → Result (Unit {0}) Refusal
stored_of (refused n) = Err n
stored_of (lays at bs) = Ok tt

-- the answer and the bytes that are left, by what the call does
pub record Stores (o : Outcome) (l : List ℕ) (r : Result (Unit {0}) Refusal) (l' : List ℕ) : Type 0 where
  pub answer : r ≡ stored_of o
  pub memory : l' ≡ left o l
