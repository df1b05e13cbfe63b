-- The bytes of a quoted text, and texts compared.
use Rattle.std.specs.Prelude.{ℕ, ◌-◌, Bool, true, false, ◌&&◌, cond, List, [] as nil, ◌∷◌ as cons, eqb, leb}
use Prim.Native.Char.{code}
use Prim.Native.String.{String, [], ◌∷◌}

abbrev pub bytes : String → List ℕ
bytes [] = nil
bytes (c ∷ s) = cons (code c) (bytes s)

-- a small letter's capital one; any other byte is itself
abbrev pub upper : ℕ → ℕ
upper b = cond (leb 97 b && leb b 122) (b - 32) b

-- a byte as it is compared: exactly, or with letters in either case
abbrev pub letter : Bool → ℕ → ℕ
letter any_case b = cond any_case (upper b) b

-- `s` is the text `name`, which has capital letters where any case counts
unfoldable pub spelled : Bool → List ℕ → List ℕ → Bool
spelled any_case nil nil = true
spelled any_case nil (cons b s) = false
spelled any_case (cons a name) nil = false
spelled any_case (cons a name) (cons b s) = eqb (letter any_case b) a && spelled any_case name s
