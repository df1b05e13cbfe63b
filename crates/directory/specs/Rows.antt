-- The rows of a file directory and the files that they name (document 01, "Directory rows", "Traps" and module 5).
use Rattle.std.specs.Prelude.{ℕ, zero, suc, ◌+◌, ◌≡◌, Bool, true, false, cond, List, [], ◌∷◌, ◌++◌, eqb, ltb, length, drop, Result, Ok, Err}
use Rattle.file_type.specs.Table.{of_code}
use Rattle.directory_row.specs.declared.Row.{Row}
use Rattle.directory_row.specs.declared.Row.TheVariants as row·
use Rattle.directory_row.specs.Row.{row_of, number_of, entry}
use Rattle.base.specs.declared.refusal.Refusal.{Refusal}
use Rattle.base.specs.declared.refusal.Refusal.TheVariants.{LongDirectory, NoRowSize, CutRow, MoreFilesThanRoom}

-- a row at the first of these bytes, the next `size` bytes further on, as long as there are any; at most `most` rows
unfoldable pub rows_in : ℕ → ℕ → List ℕ → List Row
rows_in zero size s = []
rows_in (suc most) size [] = []
rows_in (suc most) size (code ∷ behind) = row_of (of_code code) code behind ∷ rows_in most size (drop size (code ∷ behind))

-- the rows from a place on; rows that have a size are no more than there are bytes
unfoldable pub rows : ℕ → ℕ → List ℕ → List Row
rows first size s = rows_in (length s) size (drop first s)

-- is a row cut?
unfoldable pub any_cut : List Row → Bool
any_cut [] = false
any_cut (row·.File t n ∷ rs) = any_cut rs
any_cut (row·.Cut ∷ rs) = true
any_cut (row·.Reserved ∷ rs) = any_cut rs
any_cut (row·.Other ∷ rs) = any_cut rs

-- the files of rows of which none is cut, where the first row that counts is number n
unfoldable pub files_from : ℕ → List Row → List (List ℕ)
files_from n [] = []
files_from n (row·.File t bytes ∷ rs) = entry t (number_of t n) bytes ∷ files_from (number_of t n + 1) rs
files_from n (row·.Cut ∷ rs) = files_from n rs
files_from n (row·.Reserved ∷ rs) = files_from (n + 1) rs
files_from n (row·.Other ∷ rs) = files_from n rs

-- a refusal, or the files
abbrev pub Says : Type 0
Says = Result (List (List ℕ)) Refusal

-- "Does the output hold all found files? no: 10"
abbrev pub within : ℕ → List (List ℕ) → Says
within room files = cond (ltb room (length files)) (Err MoreFilesThanRoom) (Ok files)

-- "Do two bytes follow every known type code met? no: 9"
abbrev pub listed_in : ℕ → List Row → Says
listed_in room rs = cond (any_cut rs) (Err CutRow) (within room (files_from 0 rs))

-- "Is the data at most 65,535 bytes? no: 7. Is the row size not 0? no: 8."
unfoldable pub listed : ℕ → ℕ → List ℕ → ℕ → Says
listed first size s room =
    cond (ltb 65535 (length s)) (Err LongDirectory) (cond (eqb size 0) (Err NoRowSize) (listed_in room (rows first size s)))

-- what the call answers, and the memory that it leaves: the files, and nothing behind them changed
abbrev pub answer_of : Says → Result ℕ Refusal
answer_of (Err e) = Err e
answer_of (Ok files) = Ok (length files)

abbrev pub left_of : Says → List (List ℕ) → List (List ℕ)
left_of (Err e) l = l
left_of (Ok files) l = files ++ drop (length files) l

pub record Lists (o : Says) (l : List (List ℕ)) (r : Result ℕ Refusal) (l' : List (List ℕ)) : Type 0 where
  pub answer : r ≡ answer_of o
  pub memory : l' ≡ left_of o l
