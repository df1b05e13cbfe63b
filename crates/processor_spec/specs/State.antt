-- The processor's state, and when it is sound (document 01, "Questions put to each call").
use Rattle.std.specs.Prelude.{ℕ, suc, ◌+◌, ◌%◌, Bool, true, ◌&&◌, List, [], ◌∷◌, leb, ltb, eqb, length}
use Rattle.file_type.specs.Table.{element_size}
use Rattle.processor_spec.specs.declared.FileRecord.{FileRecord}

-- the file records, the data memory, the type text, and the datalog, its oldest entry first
pub record State : Type 0 where
  pub records : List FileRecord
  pub memory : List ℕ
  pub type_text : List ℕ
  pub datalog : List (List ℕ)

-- each passes a test
unfoldable pub every : {A : Type 0} → (A → Bool) → List A → Bool
every test [] = true
every test (x ∷ xs) = test x && every test xs

-- "is the type code one of the twelve?"
unfoldable pub known_code : ℕ → Bool
known_code code = ltb 0 (element_size code)

-- "up to 255, carry a known code and a length that is a multiple of the element size"
unfoldable pub good_record : FileRecord → Bool
good_record r = leb r.number 255 && known_code r.code && eqb (r.length % element_size r.code) 0

-- "records ascend by number"; the first number is at least `next`
unfoldable pub ascend : ℕ → List FileRecord → Bool
ascend next [] = true
ascend next (r ∷ rs) = leb next r.number && ascend (suc r.number) rs

-- "lie end to end", from the data byte `at` on
unfoldable pub end_to_end : ℕ → List FileRecord → Bool
end_to_end at [] = true
end_to_end at (r ∷ rs) = eqb r.start at && end_to_end (at + r.length) rs

-- the bytes of all files
unfoldable pub total : List FileRecord → ℕ
total [] = 0
total (r ∷ rs) = r.length + total rs

-- 13: "is the processor type at most 11 bytes, each below 128?"
unfoldable pub good_text : List ℕ → Bool
good_text text = leb (length text) 11 && every (λ (b : ℕ). ltb b 128) text

-- 15: "Has the datalog at most 64 entries of at most 255 bytes?"
unfoldable pub good_log : List (List ℕ) → Bool
good_log entries = leb (length entries) 64 && every (λ (e : List ℕ). leb (length e) 255) entries

-- "it has a file record; records ascend by number up to 255, carry a known code and a length that is a multiple of the element size, lie
-- end to end from data byte 0"; of 14: "Is the data total at most 65,535 bytes"
unfoldable pub good_table : List FileRecord → Bool
good_table rs = ltb 0 (length rs) && every good_record rs && ascend 0 rs && end_to_end 0 rs && leb (total rs) 65535

-- "A state is sound when it has a file record; .. and fit; and 13 to 15 hold."
unfoldable pub sound : State → Bool
sound s = good_table s.records && leb (total s.records) (length s.memory) && good_text s.type_text && good_log s.datalog
