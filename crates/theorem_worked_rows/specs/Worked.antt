-- The worked rows of document 01, W1 to W11: what the definitions give beside what the paper says. Its tags are read as from a stored list (A12: "The present reading").
use Rattle.std.specs.Prelude.{ℕ, true, List, [], ◌∷◌, take, drop, replicate, Result, Ok, Err}
use Prim.Native.String.{String}
use Rattle.base.specs.declared.refusal.Refusal.{Refusal}
use Rattle.base.specs.Refusals.{number_of}
use Rattle.base.specs.Chars.{bytes}
use Rattle.file_type.specs.Table.{row}
use Rattle.address_spec.specs.declared.Address.{Address}
use Rattle.address_spec.specs.Spelling.{address_of, or_zero}
use Rattle.address_readings.specs.declared.Reading.TheVariants.{Stored}
use Rattle.request_frame.specs.RequestFrame.{default_requestor}
use Rattle.request_spec.specs.declared.WriteValue.{WriteValue}
use Rattle.request_spec.specs.declared.WriteValue.TheVariants as value
use Rattle.request_spec.specs.Request.{Asked, refused, sends, reading, writing}
use Rattle.processor_spec.specs.Masked.{masked}
use Rattle.processor_spec.specs.Worked.{built, told, call}

-- bytes, numbers, or the number of a refusal
abbrev pub Given : Type 0
Given = Result (List ℕ) ℕ

-- the message from a byte on, and so many bytes of it
abbrev sent : ℕ → ℕ → Asked → Given
sent from n (refused e) = Err (number_of e)
sent from n (sends x bs) = Ok (take n (drop from bs))

-- "sequence 0x1234"
abbrev reads : ℕ → ℕ → String → Given
reads from n tag = sent from n (reading (bytes tag) Stored default_requestor 0x1234 (replicate 27 0))

abbrev writes : ℕ → ℕ → String → WriteValue → String → Given
writes from n tag v text = sent from n (writing (bytes tag) Stored v (bytes text) default_requestor 0x1234 (replicate 284 0))

-- type code, file, element, sub-element
abbrev parsed_as : Result Address Refusal → Given
parsed_as (Err e) = Err (number_of e)
parsed_as (Ok x) = Ok ((row x.file_type).code ∷ x.file_number ∷ x.element_number ∷ or_zero x.sub_element ∷ [])

-- "W9 bytes 11 22 33, mask word 0x0FF0, value AA BB CC"
unfoldable pub w9 : List ℕ
w9 = masked 0x0FF0 (0x11 ∷ 0x22 ∷ 0x33 ∷ []) (0xAA ∷ 0xBB ∷ 0xCC ∷ [])

-- "W10 default files, size asked with 2": the type code and the size element are those of the type text's family
unfoldable pub w10 : List ℕ → ℕ → ℕ → List ℕ
w10 text code element = told (call (built text [] 0) [] (0xA1 ∷ 0x02 ∷ 0x00 ∷ code ∷ element ∷ []))

-- "W11 datalog parameters 6D 00 A5 FF 00"
unfoldable pub w11 : List ℕ
w11 = told (call (built [] (0x02 ∷ 0x00 ∷ 0x41 ∷ 0x42 ∷ []) 1) (0x02 ∷ 0x00 ∷ 0x41 ∷ 0x42 ∷ []) (0xA2 ∷ 0x6D ∷ 0x00 ∷ 0xA5 ∷ 0xFF ∷ 0x00 ∷ []))

-- a row: its name, what the definitions give, and what document 01 says
pub record Row : Type 0 where
  pub name : String
  pub given : Given
  pub said : Given

abbrev row_of : String → Given → Given → Row
row_of name given said = record { name = name; given = given; said = said }

-- a message has size at byte 18, file at 19, mask and data of N7:0/3 and ST9:0 at 23
unfoldable pub worked : List Row
worked =
    row_of "W1 N7:0" (reads 0 27 "N7:0")
    (Ok (0x4B ∷ 0x02 ∷ 0x20 ∷ 0x67 ∷ 0x24 ∷ 0x01 ∷ 0x07 ∷ 0x09 ∷ 0x10 ∷ 0x09 ∷ 0x10 ∷ 0x19 ∷ 0x71 ∷ 0x0F ∷ 0x00 ∷ 0x34 ∷ 0x12 ∷ 0xA2 ∷ 0x02 ∷ 0x07 ∷ 0x89 ∷ 0x00 ∷ 0x00 ∷ []))
    ∷ row_of "W2 T4:123PRE: element 12, PRE" (parsed_as (address_of (bytes "T4:123PRE"))) (Ok (0x86 ∷ 4 ∷ 12 ∷ 1 ∷ []))
    ∷ row_of "W3 I99:3.300/5, from size on" (reads 18 27 "I99:3.300/5") (Ok (0x02 ∷ 0x01 ∷ 0x83 ∷ 0x03 ∷ 0xFF ∷ 0x2C ∷ 0x01 ∷ []))
    ∷ row_of "W4 B3/4095, from file on" (reads 19 27 "B3/4095") (Ok (0x03 ∷ 0x85 ∷ 0xFF ∷ 0xFF ∷ 0x00 ∷ 0x00 ∷ []))
    ∷ row_of "W5 N7:0{0}: size 0" (reads 18 1 "N7:0{0}") (Ok (0 ∷ []))
    ∷ row_of "W5 N7:0{127}: size 254" (reads 18 1 "N7:0{127}") (Ok (254 ∷ []))
    ∷ row_of "W5 N7:0{128}" (reads 0 27 "N7:0{128}") (Err 5)
    ∷ row_of "W6 ST9:0{3}" (reads 0 27 "ST9:0{3}") (Err 2)
    ∷ row_of "W6 N7:0/3{2}" (reads 0 27 "N7:0/3{2}") (Err 3)
    ∷ row_of "W7 N7:0/3 true, mask and data" (writes 23 284 "N7:0/3" (value.Bool true) "") (Ok (0x08 ∷ 0x00 ∷ 0x08 ∷ 0x00 ∷ []))
    ∷ row_of "W8 abc on ST9:0: data starts" (writes 25 6 "ST9:0" value.Text "abc") (Ok (0x03 ∷ 0x00 ∷ 0x62 ∷ 0x61 ∷ 0x00 ∷ 0x63 ∷ []))
    ∷ row_of "W9 bytes 11 22 33, mask word 0x0FF0, value AA BB CC" (Ok w9) (Ok (0xA1 ∷ 0x2B ∷ 0xC3 ∷ []))
    ∷ row_of "W10 default files, size asked with 2: 1766" (Ok (w10 (bytes "1766") 0x03 0x2B)) (Ok (0x00 ∷ 0x43 ∷ 0x4F ∷ []))
    ∷ row_of "W10 a type text outside the list" (Ok (w10 (bytes "1747-L551") 0x01 0x23)) (Ok (0x00 ∷ 0xA9 ∷ 0x00 ∷ []))
    ∷ row_of "W11 datalog parameters 6D 00 A5 FF 00: bad" (Ok w11) (Ok (0xF0 ∷ 0x06 ∷ []))
    ∷ []
