-- The bytes behind the function byte, read part by part (document 01, "What the processor does"; the Rust's `Params`).
use Rattle.std.specs.Prelude.{ℕ, Bool, ◌&&◌, ◌||◌, cond, List, [], leb, eqb, length, take, drop, None, Some}
use Rattle.base.specs.Numbers.{number}
use Rattle.parser_spec.specs.Parts.{Part, ◌>>=◌, give}

-- so many bytes
unfoldable pub several : ℕ → Part (List ℕ)
several k s = cond (leb k (length s)) (Some (take k s, drop k s)) None

-- a number of so many bytes, low byte first
abbrev pub number_of : ℕ → Part ℕ
number_of k = do
  bs ← several k
  give (number bs)

-- "An address below 255 is one byte; from 255 on it is FF and a word (manual); the processor takes any word after FF."
unfoldable pub address : Part ℕ
address = do
  b ← number_of 1
  cond (eqb b 0xFF) (number_of 2) (give b)

-- what stands in front of each access
pub record Header : Type 0 where
  pub size : ℕ
  pub file : ℕ
  pub code : ℕ
  pub element : ℕ

-- "are size, file, type and element all there?"
unfoldable pub header : Part Header
header = do
  size ← number_of 1
  file ← address
  code ← number_of 1
  element ← address
  give (record { size = size; file = file; code = code; element = element })

-- "Function 0xA1, 0xA2, 0xAA or 0xAB?"
unfoldable pub known_function : ℕ → Bool
known_function fn = eqb fn 0xA1 || eqb fn 0xA2 || eqb fn 0xAA || eqb fn 0xAB

unfoldable pub writes : ℕ → Bool
writes fn = eqb fn 0xAA || eqb fn 0xAB

-- "0xA1 on file 0: directory."
unfoldable pub asks_directory : ℕ → ℕ → Bool
asks_directory fn file = eqb fn 0xA1 && eqb file 0

-- "0xA2 with type A5: the oldest datalog entry"
unfoldable pub asks_datalog : ℕ → ℕ → Bool
asks_datalog fn code = eqb fn 0xA2 && eqb code 0xA5

-- "the last address (not for 0xA1, which takes 0)"
unfoldable pub last_address : ℕ → Part ℕ
last_address fn = cond (eqb fn 0xA1) (give 0) address

-- "the mask (0xAB)"; "0xAA has mask FFFF"
unfoldable pub mask_word : ℕ → Part ℕ
mask_word fn = cond (eqb fn 0xAB) (number_of 2) (give 0xFFFF)

-- "for 0xAA and 0xAB, size value bytes"
unfoldable pub value_bytes : ℕ → ℕ → Part (List ℕ)
value_bytes fn size = cond (writes fn) (several size) (give [])
