-- The files of a state: which there are, their bytes, and where an address points.
use Rattle.std.specs.Prelude.{ℕ, ◌+◌, ◌*◌, ◌&&◌, cond, List, [], ◌∷◌, leb, eqb, take, drop, Option, None, Some}
use Rattle.file_type.specs.Table.{element_size}
use Rattle.processor_spec.specs.declared.FileRecord.{FileRecord}
use Rattle.processor_spec.specs.State.{State}

-- a file's number, type and length
unfoldable pub shape : FileRecord → ℕ × ℕ × ℕ
shape r = (r.number, r.code, r.length)

-- the record of the file with this number
unfoldable pub find : ℕ → List FileRecord → Option FileRecord
find n [] = None
find n (r ∷ rs) = cond (eqb r.number n) (Some r) (find n rs)

abbrev pub bytes_of : List ℕ → Option FileRecord → List ℕ
bytes_of memory None = []
bytes_of memory (Some r) = take r.length (drop r.start memory)

-- the bytes of the file with this number, none where there is no such file
unfoldable pub contents : State → ℕ → List ℕ
contents s n = bytes_of s.memory (find n s.records)

-- "element × element size + 2 × last address"
abbrev pub offset : FileRecord → ℕ → ℕ → ℕ
offset r element sub = element * element_size r.code + 2 * sub

abbrev pub place_in : Option FileRecord → ℕ → ℕ → ℕ → ℕ → Option ℕ
place_in None code element sub size = None
place_in (Some r) code element sub size =
    cond (eqb r.code code && leb (offset r element sub + size) r.length) (Some (r.start + offset r element sub)) None

-- "the file must exist with that type, and element × element size + 2 × last address + size must be within its length": the place in the
-- data memory
unfoldable pub locate : List FileRecord → ℕ → ℕ → ℕ → ℕ → ℕ → Option ℕ
locate rs file code element sub size = place_in (find file rs) code element sub size
