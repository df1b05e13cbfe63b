-- Reads and writes of an address text (document 01, questions 1 to 6 and "Request bytes").
use Rattle.std.specs.Prelude.{ℕ, ◌-◌, ◌*◌, ◌≡◌, Bool, true, not, ◌&&◌, ◌||◌, cond, List, ◌++◌, leb, ltb, eqb, length, Result, Ok, Err}
use Rattle.base.specs.declared.refusal.Refusal.{Refusal}
use Rattle.base.specs.declared.refusal.Refusal.TheVariants.{BitWithCount, UnsuitableValue, SizeOutOfRange, ShortOutput}
use Rattle.base.specs.Masks.{bit_mask}
use Rattle.base.specs.Numbers.{low_first}
use Rattle.base.specs.Put.{put}
use Rattle.file_type.specs.Table.{row}
use Rattle.file_type.specs.declared.FileType.{FileType}
use Rattle.file_type.specs.declared.FileType.TheVariants.{T, C, ST, A}
use Rattle.element_text.specs.Text.{ascii_text, string_text}
use Rattle.address_spec.specs.declared.Address.{Address}
use Rattle.address_spec.specs.Elements.{Elements, elements_of}
use Rattle.address_spec.specs.Spelling.{or_zero}
use Rattle.address_readings.specs.declared.Reading.{Reading}
use Rattle.address_readings.specs.Readings.{address_in}
use Rattle.request_frame.specs.RequestFrame.{typed}
use Rattle.request_frame.specs.declared.Target.{Target}
use Rattle.request_frame.specs.declared.Requestor.{Requestor}
use Rattle.request_spec.specs.declared.WriteValue.{WriteValue}
use Rattle.request_spec.specs.declared.WriteValue.TheVariants as value

-- what a request builder does: a refusal, or the address and the message
pub data Asked : Type 0 where
  refused : Refusal → Asked
  sends : Address → List ℕ → Asked

abbrev pub request_of : Asked → Result (Address × ℕ) Refusal
request_of (refused e) = Err e
request_of (sends x bs) = Ok (x, length bs)

-- "A numbered refusal .. changes no lent memory. A success writes its stated bytes and nothing behind them."
abbrev pub left : Asked → List ℕ → List ℕ
left (refused e) l = l
left (sends x bs) l = put l 0 bs

pub record Builds (o : Asked) (l : List ℕ) (r : Result (Address × ℕ) Refusal) (l' : List ℕ) : Type 0 where
  pub answer : r ≡ request_of o
  pub now : l' ≡ left o l

-- "3. Is it free of a bit together with a count above 1? no: 3"
unfoldable pub bit_and_count : Address → Bool
bit_and_count x = x.bit && ltb 1 x.element_count

-- file, type code, element and last address field
abbrev pub place : Elements → ℕ → Target
place e last = record { file = e.file; code = (row e.type).code; element = e.element; sub = last }

-- ---- read
-- "size (element size times count)"
unfoldable pub read_size : Elements → ℕ
read_size e = (row e.type).size * e.count

-- "A read is .. 0F 00, sequence word, A2, size .., file, type code, element, position."
unfoldable pub read_message : Requestor → ℕ → Elements → List ℕ
read_message q sequence e = typed q sequence 0xA2 (read_size e) (place e e.position)

-- 3, 5 and 6, put to the address
unfoldable pub read_address : Requestor → ℕ → ℕ → Address → Asked
read_address q sequence room x =
    cond (bit_and_count x) (refused BitWithCount)
    (cond (leb (read_size (elements_of x)) 255)
    (cond (leb 27 room) (sends x (read_message q sequence (elements_of x))) (refused ShortOutput))
    (refused SizeOutOfRange))

-- the answer of the address reader, and what is done with an address
unfoldable pub on_address : Result Address Refusal → (Address → Asked) → Asked
on_address (Err e) f = refused e
on_address (Ok x) f = f x

-- "read (`read_request`: 1, 2, 3, 5, 6)"; A12: "Every call that takes a tag .. is told which of the two readings holds", "39 .. right after 2"
abbrev pub reading : List ℕ → Reading → Requestor → ℕ → List ℕ → Asked
reading tag r q sequence out = on_address (address_in r tag) (read_address q sequence (length out))

-- ---- write
abbrev pub is : Address → FileType → Bool
is x t = eqb (row x.file_type).code (row t).code

abbrev pub is_ascii : Address → Bool
is_ascii x = is x A

-- "PRE or ACC of T or C": the names with the values 1 and 2
unfoldable pub preset_or_accum : Address → Bool
preset_or_accum x = (is x T || is x C) && (eqb (or_zero x.sub_element) 1 || eqb (or_zero x.sub_element) 2)

-- "true/false on a bit address, except PRE or ACC of T or C"
unfoldable pub bit_suits : Address → Bool
bit_suits x = x.bit && not (preset_or_accum x)

-- "Latin-1 text on A or ST with count 0 or 1"
unfoldable pub text_suits : Address → Bool
text_suits x = (is_ascii x || is x ST) && leb x.element_count 1

-- "4. Write: is the value raw bytes; or true/false ..; or Latin-1 text ..? no: 4"
unfoldable pub suits : WriteValue → Address → Bool
suits value.Raw x = true
suits (value.Bool b) x = bit_suits x
suits value.Text x = text_suits x

-- "A bit's mask has that one bit, and data equals the mask or 0."
unfoldable pub bit_data : ℕ → Bool → List ℕ
bit_data n b = low_first 2 (bit_mask n) ++ low_first 2 (cond b (bit_mask n) 0)

-- "Text has mask FFFF: A is cut or padded .., ST cut to 82 with a length word ..; byte pairs are swapped."
unfoldable pub text_data : Bool → List ℕ → List ℕ
text_data ascii s = low_first 2 0xFFFF ++ cond ascii (ascii_text s) (string_text s)

-- mask word and data; "Raw bytes supply mask and data."
unfoldable pub supplied : WriteValue → List ℕ → Address → List ℕ
supplied value.Raw s x = s
supplied (value.Bool b) s x = bit_data (or_zero x.sub_element) b
supplied value.Text s x = text_data (is_ascii x) s

-- "PRE and ACC raw writes put 1 or 2 in the last address field."
unfoldable pub last_address : Address → ℕ
last_address x = cond (preset_or_accum x) (or_zero x.sub_element) (or_zero x.pos_number)

-- "A write has AB and size, then the same fields, then mask word and data; size counts data without the mask."
unfoldable pub write_message : Requestor → ℕ → Address → List ℕ → List ℕ
write_message q sequence x d = typed q sequence 0xAB (length d - 2) (place (elements_of x) (last_address x)) ++ d

-- "5. Is the size field 0 to 255? For raw bytes: are there 2 to 257?"; "6. Has the output at least .. for a write 284?"
unfoldable pub write_data : Requestor → ℕ → ℕ → Address → List ℕ → Asked
write_data q sequence room x d =
    cond (leb 2 (length d) && leb (length d) 257) (cond (leb 284 room) (sends x (write_message q sequence x d)) (refused ShortOutput)) (refused SizeOutOfRange)

-- 3 to 6, put to the address
unfoldable pub write_address : WriteValue → List ℕ → Requestor → ℕ → ℕ → Address → Asked
write_address v s q sequence room x =
    cond (bit_and_count x) (refused BitWithCount) (cond (suits v x) (write_data q sequence room x (supplied v s x)) (refused UnsuitableValue))

-- "write (`write_request`: 1 to 6)"; A12 as above
abbrev pub writing : List ℕ → Reading → WriteValue → List ℕ → Requestor → ℕ → List ℕ → Asked
writing tag r v s q sequence out = on_address (address_in r tag) (write_address v s q sequence (length out))
