-- One row of a file directory and the file that it names (document 01, "Directory rows", "Traps" and module 5).
use Rattle.std.specs.Prelude.{ℕ, ◌/◌, ◌&&◌, cond, List, [], ◌∷◌, eqb, ltb, length, take, Option, None, Some}
use Rattle.base.specs.Numbers.{number}
use Rattle.file_type.specs.declared.FileType.{FileType}
use Rattle.file_type.specs.declared.FileType.TheVariants.{I}
use Rattle.file_type.specs.Table.{row}
use Rattle.directory_row.specs.declared.Row.{Row}
use Rattle.directory_row.specs.declared.Row.TheVariants as row·

-- (`Row` is what a row says: a file with its length, a file that is cut, a number that is kept free, or nothing that counts)
-- a known type code: a file and its length word; "Do two bytes follow every known type code met?"
abbrev pub file_row : FileType → List ℕ → Row
file_row t behind = cond (ltb (length behind) 2) row·.Cut (row·.File t (number (take 2 behind)))

-- "only known codes and 81 count"
abbrev pub other_row : ℕ → Row
other_row code = cond (eqb code 0x81) row·.Reserved row·.Other

-- what a code says with the bytes behind it
abbrev pub row_of : Option FileType → ℕ → List ℕ → Row
row_of (Some t) code behind = file_row t behind
row_of None code behind = other_row code

-- "an I row while the number is 0 becomes number 1"
abbrev pub number_of : FileType → ℕ → ℕ
number_of t n = cond (eqb n 0 && eqb (row t).code (row I).code) 1 n

-- "output per file: code, number, elements, length"
abbrev pub entry : FileType → ℕ → ℕ → List ℕ
entry t n bytes = (row t).code ∷ n ∷ bytes / (row t).size ∷ bytes ∷ []
