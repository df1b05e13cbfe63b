-- What the size of a request answers.
use Rattle.std.specs.Prelude.{ℕ, ◌-◌, Bool, true, false, ◌&&◌, leb, Option, None, Some}

abbrev pub sized : Bool → ℕ → Option ℕ
sized true n = Some n
sized false n = None

-- "5. Is the size field 0 to 255?"
abbrev pub size_of : ℕ → Option ℕ
size_of n = sized (leb n 255) n

-- "For raw bytes: are there 2 to 257?"; "size counts data without the mask"
abbrev pub data_size_of : ℕ → Option ℕ
data_size_of n = sized (leb 2 n && leb n 257) (n - 2)
