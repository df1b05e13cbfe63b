-- The file types (document 01, "Request bytes" and module 1): names, codes, element sizes, and the names in T, C and R.
use Rattle.std.specs.Prelude.{ℕ, ◌-◌, Bool, true, false, cond, List, [], ◌∷◌, eqb, ltb, take, drop, find, position, Option, None, Some}
use Rattle.std.specs.Option.{option_map}
use Rattle.base.specs.Chars.{bytes, spelled}
use Rattle.file_type.specs.declared.FileType.{FileType}
use Rattle.file_type.specs.declared.FileType.TheVariants.{O, I, S, B, T, C, R, N, F, ST, A, L, MG, PD, PLS}
use Rattle.file_type.specs.declared.Field.{Field}
use Rattle.file_type.specs.declared.Field.TheVariants as field

-- the name as in the Rust, the type code, the element size, and whether the simulator knows the type
pub record Row : Type 0 where
  pub name : List ℕ
  pub code : ℕ
  pub size : ℕ
  pub simulated : Bool

-- "Type codes and element sizes: O 82, I 83, S 84, B 85, N 89, A 8E: 2; L 91, F 8A: 4; T 86, C 87, R 88: 6; ST 8D: 84. Directory rows also
-- know MG 92: 50, PD 93: 46, PLS 94: 12."
abbrev pub row : FileType → Row
row O = record { name = bytes "O"; code = 0x82; size = 2; simulated = true }
row I = record { name = bytes "I"; code = 0x83; size = 2; simulated = true }
row S = record { name = bytes "S"; code = 0x84; size = 2; simulated = true }
row B = record { name = bytes "B"; code = 0x85; size = 2; simulated = true }
row T = record { name = bytes "T"; code = 0x86; size = 6; simulated = true }
row C = record { name = bytes "C"; code = 0x87; size = 6; simulated = true }
row R = record { name = bytes "R"; code = 0x88; size = 6; simulated = true }
row N = record { name = bytes "N"; code = 0x89; size = 2; simulated = true }
row F = record { name = bytes "F"; code = 0x8A; size = 4; simulated = true }
row ST = record { name = bytes "ST"; code = 0x8D; size = 84; simulated = true }
row A = record { name = bytes "A"; code = 0x8E; size = 2; simulated = true }
row L = record { name = bytes "L"; code = 0x91; size = 4; simulated = true }
row MG = record { name = bytes "MG"; code = 0x92; size = 50; simulated = false }
row PD = record { name = bytes "PD"; code = 0x93; size = 46; simulated = false }
row PLS = record { name = bytes "PLS"; code = 0x94; size = 12; simulated = false }

-- all fifteen, in the Rust's order
abbrev pub all : List FileType
all = O ∷ I ∷ S ∷ B ∷ T ∷ C ∷ R ∷ N ∷ F ∷ ST ∷ A ∷ L ∷ MG ∷ PD ∷ PLS ∷ []

-- the type of a code
unfoldable pub of_code : ℕ → Option FileType
of_code c = find (λ (t : FileType). eqb (row t).code c) all

-- the element size of a type that the simulator knows, 0 where there is none
abbrev pub simulated_size : Option FileType → ℕ
simulated_size None = 0
simulated_size (Some t) = cond (row t).simulated (row t).size 0

-- the same by the type code
unfoldable pub element_size : ℕ → ℕ
element_size code = simulated_size (of_code code)

-- the type of a name, capital letters only
unfoldable pub of_name : List ℕ → Option FileType
of_name s = find (λ (t : FileType). spelled false (row t).name s) all

-- "words 1 and 2 (PRE, ACC; in R: LEN, POS) ..; bits .. from 15 down: T EN TT DN; C CU CD DN OV UN UA; R EN EU DN EM ER UL IN FD"
abbrev pub field_names : FileType → List (List ℕ)
field_names O = []
field_names I = []
field_names S = []
field_names B = []
field_names T = bytes "PRE" ∷ bytes "ACC" ∷ bytes "EN" ∷ bytes "TT" ∷ bytes "DN" ∷ []
field_names C = bytes "PRE" ∷ bytes "ACC" ∷ bytes "CU" ∷ bytes "CD" ∷ bytes "DN" ∷ bytes "OV" ∷ bytes "UN" ∷ bytes "UA" ∷ []
field_names R = bytes "LEN" ∷ bytes "POS" ∷ bytes "EN" ∷ bytes "EU" ∷ bytes "DN" ∷ bytes "EM" ∷ bytes "ER" ∷ bytes "UL" ∷ bytes "IN" ∷ bytes "FD" ∷ []
field_names N = []
field_names F = []
field_names ST = []
field_names A = []
field_names L = []
field_names MG = []
field_names PD = []
field_names PLS = []

-- the names of words 1 and 2
abbrev pub word_names : FileType → List (List ℕ)
word_names t = take 2 (field_names t)

-- the names of the status bits, from bit 15 down
abbrev pub bit_names : FileType → List (List ℕ)
bit_names t = drop 2 (field_names t)

-- the place of a name among the names; "Names in either case"
unfoldable pub place : List (List ℕ) → List ℕ → Option ℕ
place ns s = position (λ (n : List ℕ). spelled true n s) ns

-- the word or bit at a place
abbrev pub field_at : ℕ → Field
field_at i = cond (ltb i 2) (field.Word i) (field.Bit (i - 2))

-- what a name stands for in an element of a type
unfoldable pub of_field : FileType → List ℕ → Option Field
of_field t s = option_map field_at (place (field_names t) s)
