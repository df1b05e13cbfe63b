-- The file directory (document 01, "What the processor does").
use Rattle.std.specs.Prelude.{ℕ, zero, suc, ◌+◌, List, [], ◌∷◌, ◌++◌, length, replicate, Option, None, Some}
use Rattle.base.specs.Numbers.{low_first}
use Rattle.element_text.specs.Text.{fitted}
use Rattle.directory_sys0.specs.declared.Sys0Info.{Sys0Info}
use Rattle.processor_spec.specs.declared.FileRecord.{FileRecord}
use Rattle.processor_spec.specs.Files.{find}

-- "code and length word, or 81", on zeros
abbrev pub file_row : ℕ → Option FileRecord → List ℕ
file_row size None = fitted size 0 (0x81 ∷ [])
file_row size (Some r) = fitted size 0 (r.code ∷ low_first 2 r.length)

-- so many rows, from the file number `n` on
unfoldable pub file_rows : List FileRecord → ℕ → ℕ → ℕ → List ℕ
file_rows rs size n zero = []
file_rows rs size n (suc count) = file_row size (find n rs) ++ file_rows rs size (suc n) count

-- the number of the last record
unfoldable pub last_number : ℕ → List FileRecord → ℕ
last_number n [] = n
last_number n (r ∷ rs) = last_number r.number rs

-- "The directory starts as at most 2,793 zero bytes. .. Rows run from 0 to the last file"
unfoldable pub directory : List FileRecord → Sys0Info → List ℕ
directory rs sys = replicate sys.file_position 0 ++ file_rows rs sys.row_size 0 (suc (last_number 0 rs))

-- "the directory's length (plus 19968 for 1762, 1763, 1764, 1766) as a word, zero-padded"
unfoldable pub directory_size : List FileRecord → Sys0Info → ℕ → List ℕ
directory_size rs sys size = fitted size 0 (low_first 2 (length (directory rs sys) + sys.size_const))
