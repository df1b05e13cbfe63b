-- The state that plain data and the lent memories stand for.
use Rattle.std.specs.Prelude.{ℕ, zero, suc, ◌+◌, Bool, true, ◌&&◌, cond, List, [], ◌∷◌, leb, length, take, drop}
use Rattle.base.specs.Numbers.{number}
use Rattle.processor_spec.specs.declared.FileRecord.{FileRecord}
use Rattle.processor_spec.specs.declared.Slc.{Slc}
use Rattle.processor_spec.specs.State.{State}

-- A datalog in memory: its entries end to end, each a length word and its bytes. How much room the first entry takes:
unfoldable pub entry_room : List ℕ → ℕ
entry_room log = 2 + number (take 2 log)

-- the first so many entries
unfoldable pub entries : ℕ → List ℕ → List (List ℕ)
entries zero log = []
entries (suc k) log = drop 2 (take (entry_room log) log) ∷ entries k (drop (entry_room log) log)

-- the memory holds so many
unfoldable pub holds : ℕ → List ℕ → Bool
holds zero log = true
holds (suc k) log = leb 2 (length log) && leb (entry_room log) (length log) && holds k (drop (entry_room log) log)

-- the records in use lie in the table, the type text in its array, the entries that are left in the datalog's memory
unfoldable pub within : Slc → List FileRecord → List ℕ → Bool
within slc table log = leb slc.files (length table) && leb slc.type_len 11 && holds slc.log_left (drop slc.log_at log)

-- the state of plain data that lies within its memories
unfoldable pub held_state : Slc → List FileRecord → List ℕ → List ℕ → State
held_state slc table memory log = record {
  records = take slc.files table;
  memory = memory;
  type_text = take slc.type_len slc.type_text;
  datalog = entries slc.log_left (drop slc.log_at log);
}

-- a state that has no file, and so isn't sound
unfoldable pub no_state : List ℕ → State
no_state memory = record { records = []; memory = memory; type_text = []; datalog = [] }

-- plain data that does not lie within its memories stands for an unsound state
unfoldable pub state_of : Slc → List FileRecord → List ℕ → List ℕ → State
state_of slc table memory log = cond (within slc table log) (held_state slc table memory log) (no_state memory)
