-- Values and elements in the numbers of the C interface (slc_link.h). A kind is 0 for a whole number, 1 for float bits, 2 for text, 3 for three
-- words, 4 for a field.
use Rattle.std.specs.Prelude.{ℕ, ◌%◌, ◌≡◌, cond, List, eqb, ℤ, pos, Option, None, Some, Result, Ok, Err}
use Rattle.base.specs.Outcome.{Outcome, refused, left}
use Rattle.base.specs.Refusals.{number_of}
use Rattle.base.specs.declared.refusal.Refusal.{Refusal}
use Rattle.base.specs.declared.refusal.Refusal.TheVariants.{NoSuchElement}
use Rattle.element_spec.specs.declared.Element.{Element}
use Rattle.element_spec.specs.declared.Element.TheVariants as element
use Rattle.element_spec.specs.Decode.{Says, refuses, decoded, element_of, text_left}
use Rattle.element_spec.specs.declared.kind.ElementKind.{ElementKind}
use Rattle.element_spec.specs.declared.kind.ElementKind.TheVariants as kind
use Rattle.element_spec.specs.declared.Value.{Value}
use Rattle.element_spec.specs.declared.Value.TheVariants as value
use Rattle.element_spec.specs.Encode.{kind_of, encoded, stored_of}
use Rattle.file_type.specs.declared.FileType.{FileType}
use Rattle.element_whole.specs.Whole.{twos}
use Rattle.link_elements.specs.declared.SlcElement.{SlcElement}
use Rattle.link_elements.specs.declared.SlcValue.{SlcValue}

-- "the bits, in the low half of a"
unfoldable pub low_half : ℤ → ℕ
low_half z = twos 0xFFFFFFFFFFFFFFFF z % 0x100000000

-- a value that doesn't suit the type, which a value of an unknown kind stands for, so that it is refused with 20 behind 19 (proofs/ElementRecords.antt, `other_kind`);
-- text suits A and ST alone
abbrev pub misfit_for : ElementKind → Value
misfit_for kind.Word = value.Text
misfit_for kind.Long = value.Text
misfit_for kind.Float = value.Text
misfit_for kind.Ascii = value.Float 0
misfit_for kind.Line = value.Float 0
misfit_for kind.Fields = value.Text
misfit_for kind.Other = value.Text

unfoldable pub misfit_of : FileType → Value
misfit_of t = misfit_for (kind_of t)

-- "WHOLE: a. FLOAT: the bits, in the low half of a. TEXT: the lent text. WORDS: a, b, c. FIELD: a, to the field that the lent text names.
-- Another kind suits no type"
unfoldable pub value_of : FileType → SlcValue → Value
value_of t v =
    cond (eqb v.kind 0) (value.Whole v.a)
    (cond (eqb v.kind 1) (value.Float (low_half v.a))
    (cond (eqb v.kind 2) value.Text
    (cond (eqb v.kind 3) (value.Words v.a v.b v.c)
    (cond (eqb v.kind 4) (value.Field v.a) (misfit_of t)))))

-- 0, or the number of the refusal
abbrev pub stored_number : Result (Unit {0}) Refusal → ℕ
stored_number (Err e) = number_of e
stored_number (Ok _) = 0

-- nothing but the number of a refusal
abbrev pub refusal_of : ℕ → SlcElement
refusal_of n = record { refused = n; kind = 0; whole = pos 0; bits = 0; length = 0; word1 = pos 0; word2 = pos 0; status = 0 }

-- "WHOLE: whole. FLOAT: bits. TEXT: length. FIELD: words 1 and 2, and the named bits of word 0 in `status`." All else is 0
unfoldable pub numbers_of : Result Element Refusal → SlcElement
numbers_of (Err e) = refusal_of (number_of e)
numbers_of (Ok (element.Whole z)) = record { refused = 0; kind = 0; whole = z; bits = 0; length = 0; word1 = pos 0; word2 = pos 0; status = 0 }
numbers_of (Ok (element.Float b)) = record { refused = 0; kind = 1; whole = pos 0; bits = b; length = 0; word1 = pos 0; word2 = pos 0; status = 0 }
numbers_of (Ok (element.Text k)) = record { refused = 0; kind = 2; whole = pos 0; bits = 0; length = k; word1 = pos 0; word2 = pos 0; status = 0 }
numbers_of (Ok (element.Fields x y b)) = record { refused = 0; kind = 4; whole = pos 0; bits = 0; length = 0; word1 = x; word2 = y; status = b }

-- the answer and the bytes that are left, by what a call does
pub record StoresInNumbers (o : Outcome) (l : List ℕ) (r : ℕ) (l' : List ℕ) : Type 0 where
  pub answer : r ≡ stored_number (stored_of o)
  pub memory : l' ≡ left o l

-- the answer and the text that is left
pub record ReadsInNumbers (o : Says) (l : List ℕ) (r : SlcElement) (l' : List ℕ) : Type 0 where
  pub answer : r ≡ numbers_of (element_of o)
  pub memory : l' ≡ text_left o l

-- an element's bytes by a type code: 19 where no type has it
unfoldable pub encoded_in : Option FileType → SlcValue → List ℕ → List ℕ → Outcome
encoded_in None v text bytes = refused NoSuchElement
encoded_in (Some t) v text bytes = encoded t (value_of t v) text bytes

unfoldable pub decoded_in : Option FileType → List ℕ → ℕ → Says
decoded_in None bytes room = refuses NoSuchElement
decoded_in (Some t) bytes room = decoded t bytes room
