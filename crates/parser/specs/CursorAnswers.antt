-- What the readers answer: the value of a part of the text `s`, and a cursor at the place behind it. The cursor may stand anywhere, also behind the text.
use Rattle.std.specs.Prelude.{ℕ, ◌-◌, max, List, length, drop, Option, None, Some, option_map}
use Rattle.parser_spec.specs.Parts.{Part}
use Rattle.parser.specs.declared.Cur.{Cur}

-- the end that a reader from the place `i` on has: the text's, or `i` where it stands behind that
abbrev pub end_from : ℕ → List ℕ → ℕ
end_from i s = max i (length s)

module _ {A : Type 0} where
  -- what a part gave from the place `i` on, with a cursor for what is left: as far before the end as that is long
  unfoldable pub placed : ℕ → List ℕ → Option (A × List ℕ) → Option (A × Cur)
  placed i s None = None
  placed i s (Some x) = Some (x.0, record { i = end_from i s - length x.1 })

  -- the cursor alone
  unfoldable pub place_of : Option (A × Cur) → Option Cur
  place_of = option_map (λ x. x.1)

  -- the value of a part that is read from the place `i` on, and the place behind it
  abbrev pub read_at : ℕ → List ℕ → Part A → Option (A × Cur)
  read_at i s p = placed i s (p (drop i s))

  -- that place, of a part whose value says nothing
  abbrev pub place_at : ℕ → List ℕ → Part A → Option Cur
  place_at i s p = place_of (read_at i s p)
