-- Values from the data of a read reply (document 02, A1, "Values from a read reply."): word, long, float, bit or text, "as many as the Rust's call gives" (`parse_read_reply` of pccc.rs).
use Rattle.std.specs.Prelude.{ℕ, zero, suc, ◌/◌, ◌%◌, ◌^◌, ◌≡◌, Bool, not, cond, List, [], ◌∷◌, map, leb, eqb, ℤ, pos, negsuc, length, take, drop, Option, None, Some, Result, Ok, Err}
use Rattle.base.specs.Numbers.{number}
use Rattle.base.specs.Put.{put}
use Rattle.file_type.specs.declared.FileType.{FileType}
use Rattle.file_type.specs.declared.FileType.TheVariants.{O, I, S, B, T, C, R, N, F, ST, A, L, MG, PD, PLS}
use Rattle.file_type.specs.Table.{row}
use Rattle.element_text.specs.Text.{padded_swap}
use Rattle.element_whole.specs.Whole.{signed}
use Rattle.address_spec.specs.declared.Address.{Address}
use Rattle.base.specs.declared.refusal.Refusal.{Refusal}
use Rattle.base.specs.declared.refusal.Refusal.TheVariants.{ShortTextMemory, UnreadableReply, NoSuchValue}
use Rattle.address_spec.specs.Spelling.{or_zero}
use Rattle.address_readings.specs.Readings.{timed}
use Rattle.reply_values_spec.specs.declared.DataType.{DataType}
use Rattle.reply_values_spec.specs.declared.DataType.TheVariants.{Int, DInt, Real, Ascii, Line, No}
use Rattle.reply_values_spec.specs.declared.ReplyValue.{ReplyValue}
use Rattle.reply_values_spec.specs.declared.ReplyValue.TheVariants as value

-- "word, long, float, bit or text"; a float by its bits
pub data Value : Type 0 where
  word : ℤ → Value
  long : ℤ → Value
  float : ℕ → Value
  bit : Bool → Value
  text : List ℕ → Value

-- ---- one element
-- the Rust's `decode_element`: INT, DINT or REAL, text of A and ST, and none for MG, PD and PLS
abbrev pub data_type : FileType → DataType
data_type O = Int
data_type I = Int
data_type S = Int
data_type B = Int
data_type T = Int
data_type C = Int
data_type R = DInt
data_type N = Int
data_type F = Real
data_type ST = Line
data_type A = Ascii
data_type L = DInt
data_type MG = No
data_type PD = No
data_type PLS = No

-- "INT, DINT and REAL are CIP's, low byte first", words and longs signed. Text of A: up to 2 bytes, pairs swapped, "a lone byte is padded with a null"; of ST: a length word, "then up to 82 data
-- bytes; the text is cut to the length" and to what is there
abbrev pub value_of : DataType → List ℕ → Option Value
value_of Int p = Some (word (signed 0xFFFF (number (take 2 p))))
value_of DInt p = Some (long (signed 0xFFFFFFFF (number (take 4 p))))
value_of Real p = Some (float (number (take 4 p)))
value_of Ascii p = Some (text (padded_swap (take 2 p)))
value_of Line p = Some (text (take (number (take 2 p)) (padded_swap (take 82 (drop 2 p)))))
value_of No p = None

-- the bytes that a part must have to be read; MG, PD and PLS are never read: no element has 85
abbrev pub least : DataType → ℕ
least Int = 2
least DInt = 4
least Real = 4
least Ascii = 0
least Line = 2
least No = 85

-- a part that is too short fails
unfoldable pub decoded : DataType → List ℕ → Option Value
decoded k p = cond (leb (least k) (length p)) (value_of k p) None

-- ---- all elements
-- the data in parts of `size` bytes, the last one shorter where they don't come out even; as many turns as there are bytes are enough
unfoldable pub parts_in : ℕ → ℕ → List ℕ → List (List ℕ)
parts_in zero size s = []
parts_in (suc turns) size [] = []
parts_in (suc turns) size (b ∷ s) = take size (b ∷ s) ∷ parts_in turns size (drop size (b ∷ s))

abbrev pub parts : ℕ → List ℕ → List (List ℕ)
parts size s = parts_in (length s) size s

-- a value in front of the others
abbrev pub onto : Value → Option (List Value) → Option (List Value)
onto v None = None
onto v (Some vs) = Some (v ∷ vs)

-- one that fails lets the whole call fail
unfoldable pub collect : List (Option Value) → Option (List Value)
collect [] = Some []
collect (None ∷ os) = None
collect (Some v ∷ os) = onto v (collect os)

-- no data is no value: the call fails
abbrev pub at_least_one : Option (List Value) → Option (List Value)
at_least_one None = None
at_least_one (Some []) = None
at_least_one (Some (v ∷ vs)) = Some (v ∷ vs)

-- ---- a bit, and PRE and ACC: one value
abbrev pub alone : Option Value → Option (List Value)
alone None = None
alone (Some v) = Some (v ∷ [])

-- the Rust's `get_bit`: "the bit at `idx` of `value` (two's complement for negative values)"; the bits of −(n + 1) are the complement of those of n
unfoldable pub bit_at : ℕ → ℤ → Bool
bit_at n (pos m) = eqb (m / 2 ^ n % 2) 1
bit_at n (negsuc m) = not (eqb (m / 2 ^ n % 2) 1)

-- a word and a long have bits; a float and text have none, and the call fails
abbrev pub bit_of : ℕ → Option Value → Option Value
bit_of n None = None
bit_of n (Some (word z)) = Some (bit (bit_at n z))
bit_of n (Some (long z)) = Some (bit (bit_at n z))
bit_of n (Some (float b)) = None
bit_of n (Some (bit b)) = None
bit_of n (Some (text s)) = None

-- the element's bytes from a place in the data on
abbrev pub slice : ℕ → FileType → List ℕ → List ℕ
slice at t s = take (row t).size (drop at s)

-- PRE is word 1 of a timer or counter, ACC word 2: the place of its bytes; 0 for a bit
abbrev pub word_place : FileType → ℕ → ℕ
word_place t sub = cond (timed t) (cond (eqb sub 1) 2 (cond (eqb sub 2) 4 0)) 0

-- a bit is one of the first element
unfoldable pub bit_value : FileType → ℕ → List ℕ → Option Value
bit_value t sub s = cond (eqb (word_place t sub) 0) (bit_of sub (decoded (data_type t) (slice 0 t s))) (decoded (data_type t) (slice (word_place t sub) t s))

-- ---- the values of a reply's data, or none where the Rust's call fails
unfoldable pub values_of : FileType → Bool → ℕ → List ℕ → Option (List Value)
values_of t flag sub s = cond flag (alone (bit_value t sub s)) (at_least_one (collect (map (decoded (data_type t)) (parts (row t).size s))))

abbrev pub values : Address → List ℕ → Option (List Value)
values x s = values_of x.file_type x.bit (or_zero x.sub_element) s

-- ---- one of them
-- "one value asked for by index from 0"
unfoldable pub value_at : ℕ → List Value → Option Value
value_at i [] = None
value_at zero (v ∷ vs) = Some v
value_at (suc i) (v ∷ vs) = value_at i vs

-- what the call says: a refusal, or a value and how many there are
abbrev pub Says : Type 0
Says = Result (Value × ℕ) Refusal

-- "then 24 when the value is text and its output is below 82 bytes"
abbrev pub in_room : ℕ → ℕ → Value → Says
in_room room n (word z) = Ok (word z, n)
in_room room n (long z) = Ok (long z, n)
in_room room n (float b) = Ok (float b, n)
in_room room n (bit b) = Ok (bit b, n)
in_room room n (text s) = cond (leb 82 room) (Ok (text s, n)) (Err ShortTextMemory)

-- one of so many values; "27 when the Rust's call fails", as it does where there is none
abbrev pub one_part : ℕ → ℕ → Option Value → Says
one_part room n None = Err UnreadableReply
one_part room n (Some v) = in_room room n v

-- "28 when the index is past the last value"
abbrev pub picked : ℕ → ℕ → Option Value → Says
picked room n None = Err NoSuchValue
picked room n (Some v) = in_room room n v

-- "27 when the Rust's call fails"
abbrev pub asked : ℕ → ℕ → Option (List Value) → Says
asked i room None = Err UnreadableReply
asked i room (Some vs) = picked room (length vs) (value_at i vs)

-- "Turned away, after 1 and 2" (A12: "39 .. right after 2")
abbrev pub on_address : Result Address Refusal → List ℕ → ℕ → ℕ → Says
on_address (Err e) s i room = Err e
on_address (Ok x) s i room = asked i room (values x s)

-- ---- what the call answers, and the memory that it leaves
abbrev pub value_as : Value → ReplyValue
value_as (word z) = value.Word z
value_as (long z) = value.Long z
value_as (float b) = value.Float b
value_as (bit b) = value.Bit b
value_as (text s) = value.Text (length s)

abbrev pub reply_of : Says → Result (ReplyValue × ℕ) Refusal
reply_of (Err e) = Err e
reply_of (Ok g) = Ok (value_as g.0, g.1)

-- document 01: "A success writes its stated bytes and nothing behind them."
abbrev pub value_left : Value → List ℕ → List ℕ
value_left (word z) l = l
value_left (long z) l = l
value_left (float b) l = l
value_left (bit b) l = l
value_left (text s) l = put l 0 s

abbrev pub left : Says → List ℕ → List ℕ
left (Err e) l = l
left (Ok g) l = value_left g.0 l

pub record Reads (o : Says) (l : List ℕ) (r : Result (ReplyValue × ℕ) Refusal) (l' : List ℕ) : Type 0 where
  pub answer : r ≡ reply_of o
  pub memory : l' ≡ left o l
