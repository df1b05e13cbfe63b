-- Rows by computation, for the must-fail edits of a definition under which no law is false.
use Rattle.std.specs.Prelude.{Result, Ok, Err}
use Prim.Native.Nat.{ℕ}
use mathlib.Core.Path.{◌≡◌, refl}
use mathlib.Core.Bool.{Bool, true, false}
use mathlib.Core.List.{List, [], ◌∷◌}
use lib.ListN.{take, drop, replicate}
use Rattle.base.specs.declared.refusal.Refusal.{Refusal}
use Rattle.base.specs.declared.refusal.Refusal.TheVariants.{UnknownFileType, UnusableFileNumber, UnusableTypeText, FilesBeyondRoom, Unsound, ShortReplyMemory, MalformedCommand}
use Rattle.base.specs.Chars.{bytes}
use Rattle.directory_sys0.specs.Families.{sys0}
use Rattle.processor_spec.specs.declared.Done.{Done}
use Rattle.processor_spec.specs.declared.FileRecord.{FileRecord}
use Rattle.processor_spec.specs.declared.Slc.{Slc}
use Rattle.processor_spec.specs.Build.{Wanted, wanted, defaults, records_of, Raised, new_of}
use Rattle.processor_spec.specs.Directory.{directory}
use Rattle.processor_spec.specs.Pccc.{Left, pccc_of}
use Rattle.processor_spec.specs.Plain.{state_of}
use Rattle.processor_spec.specs.State.{sound}
use Rattle.processor_spec.specs.Worked.{all, built, command, told, call}

-- ---- building

abbrev file : ℕ → ℕ → ℕ → ℕ → FileRecord
file n c s l = record { number = n; code = c; start = s; length = l }

-- the default files
pub records :
    records_of defaults
    ≡ file 0 0x82 0 16
    ∷ file 1 0x83 16 16
    ∷ file 2 0x84 32 166
    ∷ file 3 0x85 198 64
    ∷ file 4 0x86 262 96
    ∷ file 5 0x87 358 96
    ∷ file 6 0x88 454 48
    ∷ file 7 0x89 502 200
    ∷ file 8 0x8A 702 200
    ∷ []
unfolding all
records = refl

abbrev makes : List Wanted → List ℕ → ℕ → ℕ → ℕ → Result (Unit {0}) Refusal
makes files text count records memory =
    (new_of (record { files = files; text = text; log = []; count = count }) (replicate records (file 0 0 0 0)) (replicate memory 0x55)).built.made

-- the bounds of 11, 12 and 14, and 11 before 12, 13 before 14, 14 before 15
pub made_rows :
    (makes [] [] 0 9 902
    ∷ makes [] [] 0 8 902
    ∷ makes (wanted 256 0x92 1 ∷ []) [] 0 9 902
    ∷ makes (wanted 256 0x89 1 ∷ []) [] 0 9 902
    ∷ makes (wanted 255 0x89 1 ∷ wanted 254 0x89 1 ∷ []) [] 0 2 4
    ∷ makes [] (replicate 12 0x41) 0 9 901
    ∷ makes (wanted 7 0x8D 781 ∷ []) [] 1 1 65604
    ∷ [])
    ≡ (Ok tt ∷ Err FilesBeyondRoom ∷ Err UnknownFileType ∷ Err UnusableFileNumber ∷ Ok tt ∷ Err UnusableTypeText ∷ Err FilesBeyondRoom ∷ [])
unfolding all
made_rows = refl

-- ---- a sound state

-- files of 65,534 and of 65,538 bytes in a memory that holds either
abbrev sound_in : List FileRecord → Bool
sound_in rs = sound (record { records = rs; memory = replicate 65538 0; type_text = []; datalog = [] })

pub bound_rows : (sound_in (file 1 0x89 0 65534 ∷ []) ∷ sound_in (file 1 0x89 0 65534 ∷ file 2 0x89 65534 4 ∷ []) ∷ []) ≡ (true ∷ false ∷ [])
unfolding all
bound_rows = refl

abbrev slc : ℕ → ℕ → ℕ → ℕ → Slc
slc files text_length at left = record { files = files; type_text = replicate 11 0x41; type_len = text_length; log_at = at; log_left = left }

abbrev plain_sound : Slc → Bool
plain_sound x = sound (state_of x (file 7 0x89 0 2 ∷ []) (0 ∷ 0 ∷ []) (0x07 ∷ 0x02 ∷ 0x00 ∷ 0x41 ∷ 0x42 ∷ []))

-- plain data that doesn't lie within its memories: two files of one record, 12 bytes of type text, an entry of 16,640 bytes
pub plain_rows : (plain_sound (slc 1 11 1 1) ∷ plain_sound (slc 2 11 1 1) ∷ plain_sound (slc 1 12 1 1) ∷ plain_sound (slc 1 11 2 1) ∷ []) ≡ (true ∷ false ∷ false ∷ false ∷ [])
unfolding all
plain_rows = refl

-- ---- commands

-- the processor that a call leaves, and commands one after the other
abbrev onward : Raised → Left Done → Raised
onward r x = record { built = record { slc = x.done.slc; made = Ok tt }; table = r.table; memory = x.memory }

unfoldable pub session : Raised → List ℕ → List (List ℕ) → List (List ℕ)
session r log [] = []
session r log (c ∷ cs) = told (call r log c) ∷ session (onward r (call r log c)) log cs

-- N7: a masked write of two words and an odd byte, a plain one, reads by 0xA2 and 0xA1, and one whose last address leaves its element
pub file_rows_lem :
    session (built [] [] 0) []
    ((0xAB ∷ 0x05 ∷ 0x07 ∷ 0x89 ∷ 0x00 ∷ 0x00 ∷ 0xF0 ∷ 0x0F ∷ 0xAA ∷ 0xBB ∷ 0xCC ∷ 0xDD ∷ 0xEE ∷ [])
    ∷ (0xA2 ∷ 0x06 ∷ 0x07 ∷ 0x89 ∷ 0x00 ∷ 0x00 ∷ [])
    ∷ (0xAA ∷ 0x04 ∷ 0x07 ∷ 0x89 ∷ 0x01 ∷ 0x00 ∷ 0x11 ∷ 0x22 ∷ 0x33 ∷ 0x44 ∷ [])
    ∷ (0xA1 ∷ 0x06 ∷ 0x07 ∷ 0x89 ∷ 0x01 ∷ [])
    ∷ (0xA2 ∷ 0x02 ∷ 0x07 ∷ 0x89 ∷ 0x00 ∷ 0x02 ∷ [])
    ∷ [])
    ≡ ((0x00 ∷ [])
    ∷ (0x00 ∷ 0xA0 ∷ 0x0B ∷ 0xC0 ∷ 0x0D ∷ 0xE0 ∷ 0x00 ∷ [])
    ∷ (0x00 ∷ [])
    ∷ (0x00 ∷ 0x11 ∷ 0x22 ∷ 0x33 ∷ 0x44 ∷ 0x00 ∷ 0x00 ∷ [])
    ∷ (0x00 ∷ 0x33 ∷ 0x44 ∷ [])
    ∷ [])
unfolding all told call built command session
file_rows_lem = refl

-- the directory of a 1761: its length asked with 2 bytes, with 1 and with 9
pub directory_rows :
    session (built (bytes "1761-L16AWA") [] 0) []
    ((0xA1 ∷ 0x02 ∷ 0x00 ∷ 0x00 ∷ 0x23 ∷ []) ∷ (0xA1 ∷ 0x01 ∷ 0x00 ∷ 0x00 ∷ 0x23 ∷ []) ∷ (0xA1 ∷ 0x09 ∷ 0x00 ∷ 0x00 ∷ 0x23 ∷ []) ∷ [])
    ≡ ((0x00 ∷ 0xA5 ∷ 0x00 ∷ []) ∷ (0x00 ∷ 0x00 ∷ []) ∷ (0x00 ∷ replicate 9 0) ∷ [])
unfolding all told call built command session
directory_rows = refl

-- numbers without a file: files 1 and 3 alone
pub unused_rows :
    take 12 (drop 93 (directory (records_of (wanted 3 0x89 200 ∷ wanted 1 0x8D 1 ∷ [])) (sys0 (bytes "1761"))))
    ≡ 0x81 ∷ 0x00 ∷ 0x00 ∷ 0x00 ∷ 0x00 ∷ 0x00 ∷ 0x00 ∷ 0x00 ∷ 0x8D ∷ 0x54 ∷ 0x00 ∷ 0x00 ∷ []
unfolding all
unused_rows = refl

-- a datalog of two entries, asked for twice
pub datalog_rows :
    session (built [] (0x02 ∷ 0x00 ∷ 0x41 ∷ 0x42 ∷ 0x01 ∷ 0x00 ∷ 0x43 ∷ []) 2) (0x02 ∷ 0x00 ∷ 0x41 ∷ 0x42 ∷ 0x01 ∷ 0x00 ∷ 0x43 ∷ [])
    (replicate 2 (0xA2 ∷ 0x01 ∷ 0x00 ∷ 0xA5 ∷ 0x00 ∷ []))
    ≡ (0x00 ∷ 0x41 ∷ 0x42 ∷ []) ∷ (0x00 ∷ 0x43 ∷ []) ∷ []
unfolding all told call built command session
datalog_rows = refl

-- 16 before 17, 17 before 18, a first byte of 0, and a reply in 514 bytes
abbrev answers : ℕ → ℕ → List ℕ → Result ℕ Refusal
answers files room c = (pccc_of (slc files 4 0 0) (file 7 0x89 0 2 ∷ []) (0 ∷ 0 ∷ []) [] c (replicate room 0)).done.answered

pub call_rows :
    (answers 0 513 [] ∷ answers 1 513 [] ∷ answers 1 514 (0x00 ∷ 0x0F ∷ 0x00 ∷ 0x00 ∷ 0x00 ∷ []) ∷ answers 1 514 (0x01 ∷ 0x0F ∷ 0x00 ∷ 0x00 ∷ 0x00 ∷ []) ∷ [])
    ≡ (Err Unsound ∷ Err ShortReplyMemory ∷ Err MalformedCommand ∷ Ok 5 ∷ [])
unfolding all
call_rows = refl
