-- What is laid in the output for a line.
use Rattle.std.specs.Prelude.{ℕ, ◌≤◌, List, length}
use Rattle.base.specs.Put.{Puts}
use Rattle.tags_line.specs.Lines.{asked, answer}

-- the answer to a line, laid where there is room for it; it has at most 64 bytes
pub record Answered (tag out : List ℕ) (at r : ℕ) (out' : List ℕ) : Type 0 where
  pub puts : Puts out at (answer (asked tag)) r out'
  pub most : length (answer (asked tag)) ≤ 64
