-- What the passes over the rows do: the first counts, the second lays the files.
use Rattle.std.specs.Prelude.{ℕ, ◌+◌, ◌≤◌, ◌≡◌, List, [], ◌∷◌, ◌++◌, length, take, drop, Option, None, Some}
use Rattle.directory_row.specs.declared.Row.{Row}
use Rattle.directory_row.specs.declared.Row.TheVariants as row·
use Rattle.directory.specs.declared.rows.Turn.{Turn}
use Rattle.directory.specs.Rows.{files_from}

-- n files, and those of the rows, unless one of them is cut
unfoldable pub count_from : ℕ → List Row → Option ℕ
count_from n [] = Some n
count_from n (row·.File t bytes ∷ rs) = count_from (n + 1) rs
count_from n (row·.Cut ∷ rs) = None
count_from n (row·.Reserved ∷ rs) = count_from n rs
count_from n (row·.Other ∷ rs) = count_from n rs

-- files laid over a memory from a place on
unfoldable pub lay : List (List ℕ) → ℕ → List (List ℕ) → List (List ℕ)
lay l at files = take at l ++ (files ++ drop (at + length files) l)

-- a row is done: what is left to lay and where, whatever rows follow
pub record Turned (l : List (List ℕ)) (p : Turn) (row : Row) (q : Turn) (l' : List (List ℕ)) : Type 0 where
  pub kept : length l' ≡ length l
  pub left : (rs : List Row) → lay l' q.at (files_from q.number rs) ≡ lay l p.at (files_from p.number (row ∷ rs))
  pub files : (rs : List Row) → q.at + length (files_from q.number rs) ≡ p.at + length (files_from p.number (row ∷ rs))
  pub small : (k : ℕ) → p.number ≤ k + 1 → q.number ≤ k + 2
