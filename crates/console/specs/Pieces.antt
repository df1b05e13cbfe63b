-- Text of an answer in lent memory, piece by piece: a piece that finds no room is left out whole, and the next is laid in its place.
use Rattle.std.specs.Prelude.{ℕ, ◌≡◌, List}
use Rattle.base.specs.Put.{laid, put_of}

-- a writer laid a piece, and another behind it
pub record PutsTwo (l : List ℕ) (at : ℕ) (a b : List ℕ) (r : ℕ) (l' : List ℕ) : Type 0 where
  pub is : laid r l' ≡ put_of (put_of l at a).memory (put_of l at a).end b
