-- Where the separator of an accepted timer or counter stands, counted from the tag's end: a name stands behind it.
use Rattle.std.specs.Prelude.{ℕ, zero, suc, min, ◌-◌, List, ◌∷◌, ◌++◌, Bool, ◌&&◌, ◌||◌, not, cond, leb, ltb, eqb, length, get_or, take, drop, Option}
use Prim.Native.Char.{code}
use Rattle.file_type.specs.declared.FileType.{FileType}
use Rattle.address_spec.specs.Spelling.{or_zero}
use Rattle.address_readings.specs.Readings.{plain, timed}

-- "PRE 1, ACC 2" have three letters, every other name two
abbrev pub letters_of : ℕ → ℕ
letters_of n = cond (eqb n 1 || eqb n 2) 3 2

abbrev pub name_length : Option ℕ → ℕ
name_length m = letters_of (or_zero m)

-- the byte before a place is a full stop or a slash
unfoldable pub plain_before : List ℕ → ℕ → Bool
plain_before tag end = ltb 0 end && (leb end (length tag) && plain (get_or tag (end - 1) 0))

-- a retired spelling, of an accepted tag
unfoldable pub retired_by : List ℕ → FileType → Option ℕ → Bool
retired_by tag t m = timed t && not (plain_before tag (length tag - name_length m))

-- where the bytes above 127 begin that end at a place
unfoldable pub far_start : List ℕ → ℕ → ℕ
far_start tag zero = zero
far_start tag (suc e) = cond (leb 128 (get_or tag e 0)) (far_start tag e) (suc e)

-- where the character begins that ends at a place behind a digit: one byte below 128, or all those above
unfoldable pub separator_start : List ℕ → ℕ → ℕ
separator_start tag end = min (far_start tag end) (end - 1)

-- the text with a full stop, of an accepted tag
abbrev pub replaced : List ℕ → ℕ → List ℕ
replaced tag end = take (separator_start tag end) tag ++ (code "." ∷ drop end tag)

unfoldable pub dotted_by : List ℕ → FileType → Option ℕ → List ℕ
dotted_by tag t m = cond (timed t) (replaced tag (length tag - name_length m)) tag
