-- The directory's layout by the processor's family (document 01, "What the processor does" and module 5).
use Rattle.std.specs.Prelude.{ℕ, false, cond, List, [], ◌∷◌, take}
use Prim.Native.String.{String}
use Rattle.base.specs.Chars.{bytes, spelled}
use Rattle.directory_sys0.specs.declared.Sys0Info.{Sys0Info}

abbrev pub layout : ℕ → ℕ → ℕ → ℕ → ℕ → ℕ → Sys0Info
layout first row type element len const = record {
  file_position = first;
  row_size = row;
  file_type = type;
  size_element = element;
  size_len = len;
  size_const = const;
}

-- "first row, row size, type and size element by the type text's first four bytes: 1761: 93, 8, 00, 23; 1762, 1763, 1764: 233, 10, 02, 28;
-- 1766: 233, 10, 03, 2B"; "plus 19968 for 1762, 1763, 1764, 1766"; "size length 08 for 1762, 1763, 1764 and 1766, else 04"
abbrev pub families : List (String × Sys0Info)
families =
    ("1761", layout 93 8 0x00 0x23 0x04 0)
    ∷ ("1762", layout 233 10 0x02 0x28 0x08 19968)
    ∷ ("1763", layout 233 10 0x02 0x28 0x08 19968)
    ∷ ("1764", layout 233 10 0x02 0x28 0x08 19968)
    ∷ ("1766", layout 233 10 0x03 0x2B 0x08 19968)
    ∷ []

-- the layout of the family with this name; "else 79, 10, 01, 23"
unfoldable pub family_in : List (String × Sys0Info) → List ℕ → Sys0Info
family_in [] s = layout 79 10 0x01 0x23 0x04 0
family_in (x ∷ xs) s = cond (spelled false (bytes x.0) s) x.1 (family_in xs s)

unfoldable pub sys0 : List ℕ → Sys0Info
sys0 text = family_in families (take 4 text)
