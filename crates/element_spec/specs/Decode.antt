-- Values from the bytes of one element (document 01, "Element access" and module 2).
use Rattle.std.specs.Prelude.{ℕ, ◌-◌, ◌%◌, ◌^◌, min, ◌≡◌, cond, List, ltb, ℤ, length, take, drop, Result, Ok, Err}
use Rattle.base.specs.declared.refusal.Refusal.{Refusal}
use Rattle.base.specs.declared.refusal.Refusal.TheVariants.{NoSuchElement, UnsuitableKind, ShortTextMemory}
use Rattle.base.specs.Numbers.{number}
use Rattle.base.specs.Put.{put}
use Rattle.element_spec.specs.declared.kind.ElementKind.{ElementKind}
use Rattle.element_spec.specs.declared.kind.ElementKind.TheVariants as kind
use Rattle.element_spec.specs.Encode.{kind_of}
use Rattle.file_type.specs.declared.FileType.{FileType}
use Rattle.file_type.specs.Table.{row, bit_names}
use Rattle.element_text.specs.Text.{swap_pairs}
use Rattle.element_whole.specs.Whole.{signed}
use Rattle.element_spec.specs.declared.Element.{Element}
use Rattle.element_spec.specs.declared.Element.TheVariants as element

-- "T, C, R read as words 1, 2 and those bits": word 0 with the bits that have no name cleared
abbrev pub named_bits : FileType → ℕ → ℕ
named_bits t w = w - w % 2 ^ (16 - length (bit_names t))

-- what an element says: the number of a refusal, or its value
pub data Says : Type 0 where
  refuses : Refusal → Says
  whole : ℤ → Says
  float : ℕ → Says
  text : List ℕ → Says
  fields : ℤ → ℤ → ℕ → Says

-- 24: reading text: is the output at least 82 bytes?
abbrev pub text_in : ℕ → List ℕ → Says
text_in room s = cond (ltb room 82) (refuses ShortTextMemory) (text s)

abbrev pub word_at : ℕ → List ℕ → ℕ
word_at at bytes = number (take 2 (drop at bytes))

-- an element's value by its kind: numbers low byte first, a text's length held to 82, "T, C, R read as words 1, 2 and those bits; all words and longs
-- read signed"; 20 where no kind of value suits
abbrev pub decode_as : ElementKind → FileType → List ℕ → ℕ → Says
decode_as kind.Word t bytes room = whole (signed 0xFFFF (word_at 0 bytes))
decode_as kind.Long t bytes room = whole (signed 0xFFFFFFFF (number (take 4 bytes)))
decode_as kind.Float t bytes room = float (number (take 4 bytes))
decode_as kind.Ascii t bytes room = text_in room (swap_pairs (take 2 bytes))
decode_as kind.Line t bytes room = text_in room (take (min 82 (word_at 0 bytes)) (swap_pairs (take 82 (drop 2 bytes))))
decode_as kind.Fields t bytes room = fields (signed 0xFFFF (word_at 2 bytes)) (signed 0xFFFF (word_at 4 bytes)) (named_bits t (word_at 0 bytes))
decode_as kind.Other t bytes room = refuses UnsuitableKind

-- 19: does the element lie in the bytes? Then 20, then 24
unfoldable pub decoded : FileType → List ℕ → ℕ → Says
decoded t bytes room = cond (ltb (length bytes) (row t).size) (refuses NoSuchElement) (decode_as (kind_of t) t bytes room)

-- what the call answers, and the text memory that it leaves
abbrev pub element_of : Says → Result Element Refusal
element_of (refuses n) = Err n
element_of (whole z) = Ok (element.Whole z)
element_of (float b) = Ok (element.Float b)
element_of (text s) = Ok (element.Text (length s))
element_of (fields x y b) = Ok (element.Fields x y b)

abbrev pub text_left : Says → List ℕ → List ℕ
text_left (refuses n) l = l
text_left (whole z) l = l
text_left (float b) l = l
text_left (text s) l = put l 0 s
text_left (fields x y b) l = l

pub record Reads (o : Says) (l : List ℕ) (r : Result Element Refusal) (l' : List ℕ) : Type 0 where
  pub answer : r ≡ element_of o
  pub memory : l' ≡ text_left o l
