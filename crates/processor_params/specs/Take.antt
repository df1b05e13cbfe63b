-- What stands at a place in the parameters, and the next place. "taking a byte or an address moves its position in place": a failed take
-- leaves the place.
use Rattle.std.specs.Prelude.{ℕ, ◌-◌, List, length, drop, Option, None, Some}
use Rattle.processor_spec.specs.Params.{number_of, address}
use Rattle.processor_params.specs.declared.Params.{Params}

-- the place where so much is left of the bytes
abbrev pub place_of : List ℕ → List ℕ → ℕ
place_of s rest = length s - length rest

-- what was read of the bytes, and the place behind it
abbrev pub placed : List ℕ → Option (ℕ × List ℕ) → Option (ℕ × ℕ)
placed s None = None
placed s (Some x) = Some (x.0, place_of s x.1)

-- a byte
unfoldable pub byte_at : List ℕ → ℕ → Option (ℕ × ℕ)
byte_at s at = placed s (number_of 1 (drop at s))

-- an address
unfoldable pub address_at : List ℕ → ℕ → Option (ℕ × ℕ)
address_at s at = placed s (address (drop at s))

-- what a take answers, and where it leaves the reader
pub record Taken : Type 0 where
  pub got : Option ℕ
  pub next : ℕ

abbrev pub took : Option ℕ → Params → Taken
took r p = record { got = r; next = p.pos }

-- the same of what stands at its place: where nothing is whole, it stays
abbrev pub taken : ℕ → Option (ℕ × ℕ) → Taken
taken at None = record { got = None; next = at }
taken at (Some x) = record { got = Some x.0; next = x.1 }
