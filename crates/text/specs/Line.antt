-- Fields of a line: "Fields are separated by one blank (32); two blanks in a row make an empty field."
use Rattle.std.specs.Prelude.{ℕ, List, [], ◌∷◌, Bool, false, cond, eqb, get_or}
use Rattle.base.specs.Chars.{spelled}

-- a byte in front of the first of some parts
unfoldable pub before : ℕ → List (List ℕ) → List (List ℕ)
before b [] = (b ∷ []) ∷ []
before b (w ∷ ws) = (b ∷ w) ∷ ws

-- a text, cut at each byte `by`
unfoldable pub cut : ℕ → List ℕ → List (List ℕ)
cut by [] = [] ∷ []
cut by (b ∷ s) = cond (eqb b by) ([] ∷ cut by s) (before b (cut by s))

-- part k, counted from 0; empty where there is none
abbrev pub part_at : ℕ → ℕ → List ℕ → List ℕ
part_at by k s = get_or (cut by s) k []

-- the same bytes
abbrev pub same : List ℕ → List ℕ → Bool
same s t = spelled false t s
