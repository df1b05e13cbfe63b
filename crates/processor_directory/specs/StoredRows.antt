-- The directory's array as rows are stored in it, in an array that may be too short for them. `proofs/DirectoryFilled.antt` has that processor_spec's
-- directory comes of it, which is never too long.
use Rattle.std.specs.Prelude.{ℕ, zero, suc, ◌+◌, ◌*◌, ◌/◌, ◌%◌, cond, List, ltb, set, replicate}
use Rattle.processor_spec.specs.declared.FileRecord.{FileRecord}

-- where the row of a number begins
abbrev pub row_at : ℕ → ℕ → ℕ → ℕ
row_at first row number = first + row * number

-- "or 81"
abbrev pub marked_at : List ℕ → ℕ → List ℕ
marked_at d at = cond (ltb at 2793) (set d at 0x81) d

module _ (first row : ℕ) where
  -- so many rows from 0 on
  unfoldable pub marked : List ℕ → ℕ → List ℕ
  marked d zero = d
  marked d (suc k) = marked_at (marked d k) (row_at first row k)

  -- "code and length word"
  unfoldable pub stored_row : List ℕ → FileRecord → List ℕ
  stored_row d r =
      let at : ℕ = row_at first row r.number in
      cond (ltb at 2791) (set (set (set d at r.code) (at + 1) (r.length % 256)) (at + 2) (r.length / 256 % 256)) d

-- "2,793 zero bytes"
unfoldable pub zeros : List ℕ
zeros = replicate 2793 0

unfoldable pub blank_of : ℕ → ℕ → ℕ → List ℕ
blank_of first row rows = marked first row zeros rows
