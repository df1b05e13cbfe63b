-- The address spelling (document 01, "Address spelling"; document 02, A2), form by form, and questions 1 and 2, over what is read as a character and as a letter:
-- A2's alphabet, or document 01's.
use Rattle.std.specs.Prelude.{ℕ, zero, suc, min, ◌/◌, ◌%◌, ◌≤◌, ◌≡◌, List, [], ◌∷◌, Bool, true, false, ◌&&◌, not, cond, leb, ltb, eqb, length, take, drop, Option, None, Some, is_some, unwrap_or, ok_or, Result, Ok, Err}
use Prim.Native.Char.{Char, code}
use Prim.Native.String.{String}
use Rattle.base.specs.Chars.{bytes, spelled}
use Rattle.base.specs.declared.refusal.Refusal.{Refusal}
use Rattle.base.specs.declared.refusal.Refusal.TheVariants.{MalformedTag, NotAnAddress}
use Rattle.file_type.specs.declared.FileType.{FileType}
use Rattle.file_type.specs.declared.FileType.TheVariants.{O, I, S, B, T, C, N, F, ST, A, L}
use Rattle.parser_spec.specs.DecimalNumbers.{digit_run, number_of}
use Rattle.parser_spec.specs.Parts.{Part, then, ◌>>=◌, ◌>>◌, give, here, or_else, whole, one, byte, sign, digits, digits_in, after, count, count_of, before}
use Rattle.parser_spec.specs.Characters.{well_formed, Alphabet, utf8, bytewise, letter, first_of}
use Rattle.address_spec.specs.declared.Address.{Address}

-- "The answer gives type, file, element, position, sub-element, bit flag, count and the length of the kept tag text"
abbrev pub address : FileType → ℕ → ℕ → Option ℕ → Option ℕ → Bool → ℕ → ℕ → Address
address t f e p b flag n k = record {
  file_type = t;
  file_number = f;
  element_number = e;
  pos_number = p;
  sub_element = b;
  bit = flag;
  element_count = n;
  kept = k;
}

abbrev pub present : Option ℕ → Bool
present m = is_some m

abbrev pub or_zero : Option ℕ → ℕ
or_zero m = unwrap_or m 0

-- ---- what several forms share
-- "File 1 to 255, element at most 255, bit at most 15, unless said."
abbrev pub file : Part ℕ
file = digits_in 3 1 255

abbrev pub element : Part ℕ
element = digits_in 3 0 255

-- file and the sign behind it
unfoldable pub file_before : ℕ → Part ℕ
file_before v = do f ← file; byte v; give f

abbrev pub file_then : Char → Part ℕ
file_then c = file_before (code c)

-- "optional `/`bit (2 at most)"
unfoldable pub optional_bit : Part (Option ℕ)
optional_bit = after "/" (do n ← digits_in 2 0 15; give (Some n)) None

-- "optional `/`bit, count"
unfoldable pub bit_count : Part (Option ℕ × ℕ)
bit_count = do b ← optional_bit; n ← count; give (b, n)

-- ---- C, T
-- "PRE 1, ACC 2, EN 15, TT 14, DN 13, CU 15, CD 14, OV 12, UN 11, UA 10. Any name suits either letter."
unfoldable pub ct_names : List (String × ℕ)
ct_names =
    ("PRE", 1) ∷ ("ACC", 2) ∷ ("EN", 15) ∷ ("TT", 14) ∷ ("DN", 13) ∷ ("CU", 15) ∷ ("CD", 14) ∷ ("OV", 12) ∷ ("UN", 11) ∷ ("UA", 10) ∷ []

-- "then exactly one name": all the rest spells it. A2: "Names, digits and signs are as before."
unfoldable pub name_in : List (String × ℕ) → Part ℕ
name_in [] s = None
name_in (x ∷ xs) s = cond (spelled true (bytes x.0) s) (Some (x.1, [])) (name_in xs s)

-- A2: "The separator of a timer or counter address is one character that isn't a newline.", which is U+000A alone; document 01: "one byte that isn't a newline"
abbrev pub separates : ℕ → Bool
separates x = not (eqb x 10)

module _ (char : Part ℕ) (separator : ℕ → Bool) where
  -- an element of k digits, a separator, a name
  unfoldable pub cut : ℕ → Part (ℕ × ℕ)
  cut k s = then (one char separator (drop k s)) (λ _ r. then (name_in ct_names r) (λ n q. Some ((number_of (take k s), n), q)))

  -- the same with k digits or fewer, "longest cut first"
  unfoldable pub cuts : ℕ → Part (ℕ × ℕ)
  cuts zero s = None
  cuts (suc k) s = or_else (cut (suc k) s) (cuts k s)

  unfoldable pub element_name : Part (ℕ × ℕ)
  element_name s = cuts (min (digit_run s) 3) s

module _ (alphabet : Alphabet) (separator : ℕ → Bool) where
  -- "C, T: file (1 to 3 digits), `:`, element (1 to 3 digits, longest cut first), one byte that isn't a newline, then exactly one name, no count"; A2: one character
  unfoldable pub ct : List ℕ → Option Address
  ct tag = whole (do
    t ← first_of alphabet (("C", C) ∷ ("T", T) ∷ [])
    f ← file_then ":"
    x ← element_name alphabet.char separator
    here (leb x.0 255)
    give (address t f x.0 None (Some x.1) true 1 (length tag))) tag

-- ---- the other forms
-- "optional number of 1 to 3 digits, ignored"
unfoldable pub ignored : Part (Unit {0})
ignored s = cond (eqb (digit_run s) 0) (Some (tt, s)) (then (digits 3 s) (λ _ r. Some (tt, r)))

-- "optional `.`position (0 to 999)"; "0 if unwritten"
unfoldable pub optional_position : Part ℕ
optional_position = after "." (digits_in 3 0 999) 0

-- "File is 0 for O, 1 for I."
abbrev pub slots : List (Char × (FileType × ℕ))
slots = ("I", (I, 1)) ∷ ("O", (O, 0)) ∷ []

-- "all of it for .. S with a bit, else what stands before `{`"; A2: "The kept length counts bytes."
abbrev pub kept_of : Option ℕ → List ℕ → ℕ
kept_of None tag = before "{" tag
kept_of (Some n) tag = length tag

unfoldable pub or_try : Option Address → Option Address → Option Address
or_try None q = q
or_try (Some x) q = Some x

-- "ST, A: file, `:`, element (4 digits at most), count."; "ST takes only {1} or {2}"
abbrev pub behind_st_a : Bool → List ℕ → FileType → Part Address
behind_st_a st tag t = do
  f ← file_then ":"
  e ← digits_in 4 0 255
  n ← count_of st
  give (address t f e None None false n (before "{" tag))

module _ (alphabet : Alphabet) where
  -- "L, F, B, N: file, `:`, element (3 digits at most), optional `/`bit (2 at most), count."
  unfoldable pub lfbn : List ℕ → Option Address
  lfbn tag = whole (do
    t ← first_of alphabet (("L", L) ∷ ("F", F) ∷ ("B", B) ∷ ("N", N) ∷ [])
    f ← file_then ":"
    e ← element
    x ← bit_count
    give (address t f e None x.0 (present x.0) x.1 (before "{" tag))) tag

  unfoldable pub slot : Part (FileType × ℕ)
  slot = do t ← first_of alphabet slots; ignored; sign ":"; give t

  -- "I, O: optional number of 1 to 3 digits, ignored; `:`, element, optional `.`position (0 to 999), optional `/`bit, count."; "sub-element is missing without a bit or name, but 0 on I and O"
  unfoldable pub io : List ℕ → Option Address
  io tag = whole (do
    t ← slot
    e ← element
    p ← optional_position
    x ← bit_count
    give (address t.0 t.1 e (Some p) (Some (or_zero x.0)) (present x.0) x.1 (before "{" tag))) tag

  -- the letters
  unfoldable pub st_or_a : Bool → Part FileType
  st_or_a true = do letter alphabet "S"; letter alphabet "T"; give ST
  st_or_a false = do letter alphabet "A"; give A

  -- the letters, and what stands behind them
  unfoldable pub sta : Bool → List ℕ → Option Address
  sta st tag = whole (do t ← st_or_a st; behind_st_a st tag t) tag

  -- "S: `:`, element, optional `/`bit, count. File 2."
  unfoldable pub status : List ℕ → Option Address
  status tag = whole (do
    letter alphabet "S"
    sign ":"
    e ← element
    x ← bit_count
    give (address S 2 e None x.0 (present x.0) x.1 (kept_of x.0 tag))) tag

  -- "B: file, `/`, bit 0 to 4095 (4 digits at most), count; element is bit / 16, bit is the remainder."
  unfoldable pub bits : List ℕ → Option Address
  bits tag = whole (do
    letter alphabet "B"
    f ← file_then "/"
    x ← digits_in 4 0 4095
    n ← count
    give (address B f (x / 16) None (Some (x % 16)) true n (before "{" tag))) tag

  -- the forms in the Rust's order
  unfoldable pub last_forms : List ℕ → Option Address
  last_forms tag = or_try (sta true tag) (or_try (sta false tag) (or_try (status tag) (bits tag)))

  unfoldable pub form_of : (ℕ → Bool) → List ℕ → Option Address
  form_of separator tag = or_try (ct alphabet separator tag) (or_try (lfbn tag) (or_try (io tag) (last_forms tag)))

-- ---- questions 1 and 2
abbrev pub accepted : Option Address → Result Address Refusal
accepted x = ok_or x NotAnAddress

-- A2: "a tag is well-formed UTF-8 of at most 255 bytes"; "1 now means longer than 255 bytes or not well-formed"; document 01: "2. Does `parse_tag` accept it? no: 2"
unfoldable pub address_of : List ℕ → Result Address Refusal
address_of tag = cond (leb (length tag) 255 && well_formed tag) (accepted (form_of utf8 separates tag)) (Err MalformedTag)

-- document 01's own answer: "1. Is the tag at most 255 bytes, each below 128? .. no: 1"
unfoldable pub ascii : List ℕ → Bool
ascii [] = true
ascii (x ∷ r) = ltb x 128 && ascii r

unfoldable pub base_address_of : List ℕ → Result Address Refusal
base_address_of tag = cond (leb (length tag) 255 && ascii tag) (accepted (form_of bytewise separates tag)) (Err MalformedTag)

-- for a tag of bytes below 128 every answer is document 01's
abbrev pub Unchanged : Type 0
Unchanged = (tag : List ℕ) → ascii tag ≡ true → address_of tag ≡ base_address_of tag

-- the same answer, with a kept text that is one byte longer
abbrev pub longer : Address → Address
longer x = address x.file_type x.file_number x.element_number x.pos_number x.sub_element x.bit x.element_count (suc x.kept)

abbrev pub one_longer : Result Address Refusal → Result Address Refusal
one_longer (Err e) = Err e
one_longer (Ok x) = Ok (longer x)

-- A2: "U+0131 is an I and U+017F is an S where a file letter is read" (C4 B1, C5 BF); "The kept length counts bytes." With at most 253 bytes behind the letter both tags have at most 255.
abbrev pub FileLetters : Type 0
FileLetters = (s : List ℕ) → length s ≤ 253 → (address_of (0xC4 ∷ 0xB1 ∷ s) ≡ one_longer (address_of (code "I" ∷ s))) × (address_of (0xC5 ∷ 0xBF ∷ s) ≡ one_longer (address_of (code "S" ∷ s)))
