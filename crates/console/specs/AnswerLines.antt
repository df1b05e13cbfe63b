-- Answers of the line protocol that many calls share.
use Rattle.std.specs.Prelude.{ℕ, List, [], ◌∷◌, ◌++◌}
use Rattle.base.specs.Chars.{bytes}
use Rattle.text.specs.Hex.{hex}
use Rattle.decimal.specs.Decimals.{decimal}

-- "`refused N` (document 01's number)"
unfoldable pub refused_line : ℕ → List ℕ
refused_line n = bytes "refused " ++ (decimal n ++ (10 ∷ []))

-- "`error WHY` where the line isn't one of the protocol"
unfoldable pub error_line : List ℕ → List ℕ
error_line why = bytes "error " ++ (why ++ (10 ∷ []))

-- "byte string: `-` for the empty one"
unfoldable pub byte_string : List ℕ → List ℕ
byte_string [] = bytes "-"
byte_string (b ∷ s) = hex (b ∷ s)

-- "`ok BYTES`"
unfoldable pub ok_bytes : List ℕ → List ℕ
ok_bytes bs = bytes "ok " ++ (byte_string bs ++ (10 ∷ []))
