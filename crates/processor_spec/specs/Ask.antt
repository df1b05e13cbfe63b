-- What a command asks, by the file records and the type text alone (document 01, "What the processor does").
use Rattle.std.specs.Prelude.{ℕ, ◌+◌, ◌*◌, ◌&&◌, cond, List, [], ◌∷◌, ◌++◌, leb, eqb, length, take, drop, replicate, Option, None, Some}
use Rattle.parser_spec.specs.Parts.{Part, ◌>>=◌, give}
use Rattle.element_text.specs.Text.{fitted}
use Rattle.directory_sys0.specs.declared.Sys0Info.{Sys0Info}
use Rattle.directory_sys0.specs.Families.{sys0}
use Rattle.processor_spec.specs.declared.FileRecord.{FileRecord}
use Rattle.processor_spec.specs.Directory.{directory, directory_size}
use Rattle.processor_spec.specs.Files.{locate}
use Rattle.processor_spec.specs.Params.{Header, header, known_function, writes, asks_directory, asks_datalog, last_address, mask_word, value_bytes}

--     fail       a status other than 0, with its extended byte, if any
--     tell       these bytes
--     pop        the oldest datalog entry
--     read       so many bytes of the data memory, from a place on
--     write      these values to the data memory, from a place on, under a mask
pub data Ask : Type 0 where
  fail : (status : ℕ) (extended : List ℕ) → Ask
  tell : List ℕ → Ask
  pop : Ask
  read : (at size : ℕ) → Ask
  write : (at mask : ℕ) (values : List ℕ) → Ask

-- "status 10"
unfoldable pub illegal : Ask
illegal = fail 0x10 []

-- "status F0, extended 06 ("bad")"
unfoldable pub bad : Ask
bad = fail 0xF0 (0x06 ∷ [])

abbrev pub or_bad : Option (Ask × List ℕ) → Ask
or_bad None = bad
or_bad (Some x) = x.0

-- "A wrong type code is bad. Size element with size 2 to 8 gives the directory's length ..; otherwise size bytes from 2 × element on, bad if
-- 2 × element + size is above the length."
unfoldable pub ask_directory : List FileRecord → Sys0Info → Header → Ask
ask_directory rs sys h =
    cond (eqb h.code sys.file_type)
    (cond (eqb h.element sys.size_element && (leb 2 h.size && leb h.size 8))
    (tell (directory_size rs sys h.size))
    (cond (leb (2 * h.element + h.size) (length (directory rs sys))) (tell (take h.size (drop (2 * h.element) (directory rs sys)))) bad))
    bad

-- a place, where there is one
abbrev pub place : Option ℕ → Part ℕ
place None = λ s. None
place (Some at) = give at

-- "Else the last address .., the mask (0xAB) and, for 0xAA and 0xAB, size value bytes must be there, the file must exist with that type, and
-- element × element size + 2 × last address + size must be within its length: bad if not."
unfoldable pub ask_file : List FileRecord → ℕ → Header → Part Ask
ask_file rs fn h = do
  sub ← last_address fn
  mask ← mask_word fn
  values ← value_bytes fn h.size
  at ← place (locate rs h.file h.code h.element sub h.size)
  give (cond (writes fn) (write at mask values) (read at h.size))

-- the questions of CMD 0x0F, in their order; `x` are the header and the bytes behind it
abbrev pub ask_function : List FileRecord → List ℕ → ℕ → Option (Header × List ℕ) → Ask
ask_function rs text fn None = bad
ask_function rs text fn (Some x) =
    cond (known_function fn)
    (cond (asks_directory fn x.0.file) (ask_directory rs (sys0 text) x.0)
    (cond (asks_datalog fn x.0.code) pop
    (or_bad (ask_file rs fn x.0 x.1))))
    illegal

-- "CMD 0x06: 00 EE 31 5B 30, type text padded with spaces to 11, eight zeros."
unfoldable pub diagnostic : List ℕ → List ℕ
diagnostic text = 0x00 ∷ 0xEE ∷ 0x31 ∷ 0x5B ∷ 0x30 ∷ (fitted 11 0x20 text ++ replicate 8 0)

-- "CMD 0x0F with a function byte, or CMD 0x06 with function 0x03? no: status 10."; `p` begins with the function byte
unfoldable pub ask : List FileRecord → List ℕ → ℕ → List ℕ → Ask
ask rs text cmd [] = illegal
ask rs text cmd (fn ∷ p) =
    cond (eqb cmd 0x0F) (ask_function rs text fn (header p))
    (cond (eqb cmd 0x06 && eqb fn 0x03) (tell (diagnostic text)) illegal)
