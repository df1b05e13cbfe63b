-- The program `tags` (document 01: "Program `tags` reads tags from standard input by line (a carriage return counts, a missing last newline
-- doesn't), default requester, sequence 0, and prints capital hexadecimal or `refused` and the number.").
use Rattle.std.specs.Prelude.{ℕ, List, [], ◌∷◌, ◌++◌, cond, eqb}
use Rattle.base.specs.Chars.{bytes}
use Rattle.base.specs.Refusals.{number_of}
use Rattle.text.specs.Hex.{hex}
use Rattle.text.specs.Line.{before}
use Rattle.decimal.specs.Decimals.{decimal}
use Rattle.address_readings.specs.declared.Reading.TheVariants.{New}
use Rattle.address_readings.specs.Readings.{address_in}
use Rattle.request_frame.specs.RequestFrame.{default_requestor}
use Rattle.request_spec.specs.Request.{Asked, refused, sends, on_address, read_address}

-- "by line": a newline (10) ends a line; bytes behind the last newline are a line too ("a missing last newline doesn't"), and no byte there is
-- no line. Any other byte is part of its line ("a carriage return counts").
unfoldable pub lines : List ℕ → List (List ℕ)
lines [] = []
lines (b ∷ s) = cond (eqb b 10) ([] ∷ lines s) (before b (lines s))

-- "default requester, sequence 0": questions 1, 2, 3 and 5, put to the tag; with 27 bytes of output the answer to 6 is yes. A12: "Program `tags` uses the new reading.": 39 behind 2
unfoldable pub asked : List ℕ → Asked
asked tag = on_address (address_in New tag) (read_address default_requestor 0 27)

-- "prints capital hexadecimal or `refused` and the number"
unfoldable pub answer : Asked → List ℕ
answer (refused e) = bytes "refused " ++ (decimal (number_of e) ++ (10 ∷ []))
answer (sends x message) = hex message ++ (10 ∷ [])

-- an answer for each line, in their order
unfoldable pub answers : List (List ℕ) → List ℕ
answers [] = []
answers (l ∷ ls) = answer (asked l) ++ answers ls

-- the whole program: what it prints for an input
abbrev pub tags : List ℕ → List ℕ
tags input = answers (lines input)
