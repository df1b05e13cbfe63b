-- The two readings of a tag (document 02, A12, "Odd separators retire."): 39 for a retired spelling in a new entry, and the text with a full stop.
use Rattle.std.specs.Prelude.{ℕ, zero, suc, min, ◌-◌, ◌≡◌, ◌↔◌, List, [], ◌∷◌, ◌++◌, Bool, true, false, ◌&&◌, ◌||◌, not, cond, leb, eqb, length, take, drop, Option, None, Some, Result, Ok, Err}
use Prim.Native.Char.{code}
use Rattle.base.specs.declared.refusal.Refusal.{Refusal}
use Rattle.base.specs.declared.refusal.Refusal.TheVariants.{MalformedTag, NotAnAddress, RetiredSeparator}
use Rattle.file_type.specs.declared.FileType.{FileType}
use Rattle.file_type.specs.declared.FileType.TheVariants.{O, I, S, B, T, C, R, N, F, ST, A, L, MG, PD, PLS}
use Rattle.parser_spec.specs.DecimalNumbers.{digit_run}
use Rattle.parser_spec.specs.Parts.{Part, ◌>>◌}
use Rattle.parser_spec.specs.Characters.{character, well_formed, utf8, first_of}
use Rattle.address_spec.specs.Spelling.{address, file_then, separates, cut, form_of, address_of}
use Rattle.address_spec.specs.declared.Address.{Address}
use Rattle.address_readings.specs.declared.Reading.{Reading}
use Rattle.address_readings.specs.declared.Reading.TheVariants.{New, Stored}

-- ---- the separator of a timer or counter
abbrev pub stands : {A : Type 0} → Option A → Bool
stands None = false
stands (Some a) = true

-- how many digits the element has, k or fewer: "longest cut first", as the stored reading has it
unfoldable pub element_digits : ℕ → List ℕ → ℕ
element_digits zero s = zero
element_digits (suc k) s = cond (stands (cut character separates (suc k) s)) (suc k) (element_digits k s)

-- an element is read
unfoldable pub past_element : Part (Unit {0})
past_element s = Some (tt, drop (element_digits (min (digit_run s) 3) s) s)

-- document 01: "C, T: file (1 to 3 digits), `:`, element (1 to 3 digits, longest cut first)"; what is left begins with the separator
unfoldable pub up_to_separator : Part (Unit {0})
up_to_separator = do first_of utf8 (("C", C) ∷ ("T", T) ∷ []); file_then ":"; past_element

-- A2: "one character"
unfoldable pub separator : Part ℕ
separator = do up_to_separator; character

-- ---- the readings
-- "New entries take only a full stop or a slash before PRE, ACC or a bit name."
abbrev pub plain : ℕ → Bool
plain x = eqb x (code ".") || eqb x (code "/")

abbrev pub plainly : Option (ℕ × List ℕ) → Bool
plainly None = false
plainly (Some x) = plain x.0

-- "a timer's or counter's"
abbrev pub timed : FileType → Bool
timed O = false
timed I = false
timed S = false
timed B = false
timed T = true
timed C = true
timed R = false
timed N = false
timed F = false
timed ST = false
timed A = false
timed L = false
timed MG = false
timed PD = false
timed PLS = false

abbrev pub of_timer : Result Address Refusal → Bool
of_timer (Err e) = false
of_timer (Ok x) = timed x.file_type

-- "a retired spelling": accepted as a stored one is, with another separator
unfoldable pub retired : List ℕ → Bool
retired tag = of_timer (address_of tag) && not (plainly (separator tag))

-- "The present reading remains for stored address lists, which therefore keep their meaning."; "39 for a retired spelling in a new entry, right after 2"
unfoldable pub address_in : Reading → List ℕ → Result Address Refusal
address_in Stored tag = address_of tag
address_in New tag = cond (retired tag) (Err RetiredSeparator) (address_of tag)

-- ---- the text with a full stop
-- what was read of a text before a rest of it; the rest that a part left
abbrev pub up_to : List ℕ → List ℕ → List ℕ
up_to rest tag = take (length tag - length rest) tag

abbrev pub left : {A : Type 0} → Option (A × List ℕ) → List ℕ
left None = []
left (Some x) = x.1

unfoldable pub dotted_timer : List ℕ → List ℕ
dotted_timer tag = up_to (left (up_to_separator tag)) tag ++ (code "." ∷ left (separator tag))

-- "the text of an accepted address with a timer's or counter's separator replaced by a full stop; any other address is written unchanged"
unfoldable pub dotted : Address → List ℕ → List ℕ
dotted x tag = cond (timed x.file_type) (dotted_timer tag) tag

-- ---- claims
-- reading with the test of the separator: what is accepted with any separator, and not with this test, is retired
abbrev pub by_forms : Option Address → Option Address → Result Address Refusal
by_forms None y = Err NotAnAddress
by_forms (Some x) None = Err RetiredSeparator
by_forms (Some x) (Some y) = Ok y

unfoldable pub by_test : List ℕ → Result Address Refusal
by_test tag = cond (leb (length tag) 255 && well_formed tag) (by_forms (form_of utf8 separates tag) (form_of utf8 plain tag)) (Err MalformedTag)

-- the new reading is that with the test
abbrev pub ByTest : Type 0
ByTest = (tag : List ℕ) → address_in New tag ≡ by_test tag

-- "The accuracy rule for new entries speaks of accepted spellings less the retired ones."
abbrev pub LessRetired : Type 0
LessRetired = (tag : List ℕ) (x : Address) → (address_in New tag ≡ Ok x) ↔ ((address_in Stored tag ≡ Ok x) × ((timed x.file_type && not (plainly (separator tag))) ≡ false))

-- whatever isn't a timer's or counter's address has one answer; no tag that begins with neither letter is one
abbrev pub NoDifference : Type 0
NoDifference = (tag : List ℕ) → (of_timer (address_of tag) ≡ false → (r : Reading) → address_in r tag ≡ address_of tag) × (first_of utf8 (("C", C) ∷ ("T", T) ∷ []) tag ≡ None → of_timer (address_of tag) ≡ false)

-- the same address, with a kept text of this length
abbrev pub keeping : ℕ → Address → Address
keeping k x = address x.file_type x.file_number x.element_number x.pos_number x.sub_element x.bit x.element_count k

-- the text with a full stop is accepted as a new entry and names the same address; a timer's or counter's keeps its own length
abbrev pub kept_in : List ℕ → Address → Address
kept_in text x = cond (timed x.file_type) (keeping (length text) x) x

abbrev pub DottedNames : Type 0
DottedNames = (tag : List ℕ) (x : Address) → address_of tag ≡ Ok x → address_in New (dotted x tag) ≡ Ok (kept_in (dotted x tag) x)
