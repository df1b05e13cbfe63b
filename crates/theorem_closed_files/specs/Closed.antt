-- Demand 3: nobody who sends only commands that avoid a closed file can learn or change a byte of it (document 01 (e)).
use Rattle.std.specs.Prelude.{ℕ, ◌≡◌, Bool, true, false, not, ◌&&◌, ◌||◌, cond, List, [], ◌∷◌, map, eqb, length, Option, None, Some}
use Rattle.parser_spec.specs.Parts.{◌>>=◌, give}
use Rattle.processor_spec.specs.Files.{shape, contents}
use Rattle.processor_spec.specs.Frame.{well_formed, cmd, function}
use Rattle.processor_spec.specs.Params.{number_of, address, asks_directory, asks_datalog}
use Rattle.processor_spec.specs.State.{State, sound}
use Rattle.processor_spec.specs.Step.{Call, run}

-- ---- a command that avoids the closed files

abbrev pub value : Option (ℕ × List ℕ) → Option ℕ
value None = None
value (Some x) = Some x.0

-- "The file place is the address behind size in a 0x0F command ..; a command cut before that address ends has none."; `p` stands behind the
-- function byte
unfoldable pub file_place : List ℕ → Option ℕ
file_place p = value ((do size ← number_of 1; file ← address; give file) p)

-- the type behind it
unfoldable pub type_place : List ℕ → Option ℕ
type_place p = value ((do size ← number_of 1; file ← address; code ← number_of 1; give code) p)

-- what stands there passes a test
abbrev pub there : (ℕ → Bool) → Option ℕ → Bool
there test None = false
there test (Some n) = test n

-- "none with a closed file's number in its file place unless it asks for the directory or the datalog": "0xA1 with file place 0 asks for the
-- directory, 0xA2 with type A5 for the datalog"
unfoldable pub avoids_by : (ℕ → Bool) → ℕ → List ℕ → Bool
avoids_by closed fn p = not (there closed (file_place p)) || there (asks_directory fn) (file_place p) || there (asks_datalog fn) (type_place p)

-- by CMD, and the bytes from the function byte on
unfoldable pub avoids_in : (ℕ → Bool) → ℕ → List ℕ → Bool
avoids_in closed code [] = true
avoids_in closed code (fn ∷ p) = not (eqb code 0x0F) || avoids_by closed fn p

-- "in a 0x0F command not refused with 18"
unfoldable pub avoids : (ℕ → Bool) → List ℕ → Bool
avoids closed c = not (well_formed c) || avoids_in closed (cmd c) (function c)

-- the file place of a command, where it has one: not where it is refused with 18, isn't a 0x0F command, or is cut before that address ends
abbrev pub place_behind : List ℕ → Option ℕ
place_behind [] = None
place_behind (fn ∷ p) = file_place p

unfoldable pub file_place_of : List ℕ → Option ℕ
file_place_of c = cond (well_formed c && eqb (cmd c) 0x0F) (place_behind (function c)) None

unfoldable pub all_avoid : (ℕ → Bool) → List Call → Bool
all_avoid closed [] = true
all_avoid closed (c ∷ cs) = avoids closed c.command && all_avoid closed cs

-- ---- two processors

-- "in memories of equal size, agree on type text, datalog, all file numbers, types and lengths, and the bytes of the open files"
pub record Agree (closed : ℕ → Bool) (a b : State) : Type 0 where
  pub same_size : length a.memory ≡ length b.memory
  pub same_text : a.type_text ≡ b.type_text
  pub same_log : a.datalog ≡ b.datalog
  pub same_files : map shape a.records ≡ map shape b.records
  pub same_open : (n : ℕ) → closed n ≡ false → contents a n ≡ contents b n

-- the same commands, with "reply memories of equal length on the two sides"
pub data SameCalls : List Call → List Call → Type 0 where
  none_left : SameCalls [] []
  one_more : {c d : Call} {cs ds : List Call} → c.command ≡ d.command → length c.memory ≡ length d.memory → SameCalls cs ds
      → SameCalls (c ∷ cs) (d ∷ ds)

-- "each closed file has .. the bytes it had before"
pub record Kept (closed : ℕ → Bool) (s t : State) : Type 0 where
  pub kept_bytes : (n : ℕ) → closed n ≡ true → contents t n ≡ contents s n

-- What holds after commands that took `a` to `x` and `b` to `y`: "both are sound and still agree on all of the above; and each closed file
-- has, in either, the bytes it had before the first command".
pub record Isolated (closed : ℕ → Bool) (a b x y : State) : Type 0 where
  pub sound_left : sound x ≡ true
  pub sound_right : sound y ≡ true
  pub agree_after : Agree closed x y
  pub kept_left : Kept closed a x
  pub kept_right : Kept closed b y

-- Demand 3: "every command has had the same number, or a reply of the same length and bytes, from both", and the above.
abbrev pub ClosedFileRule : Type 0
ClosedFileRule =
    (closed : ℕ → Bool) (a b : State) (cs ds : List Call)
    → sound a ≡ true → sound b ≡ true → Agree closed a b
    → SameCalls cs ds → all_avoid closed cs ≡ true
    → ((run a cs).answers ≡ (run b ds).answers) × Isolated closed a b (run a cs).last (run b ds).last
