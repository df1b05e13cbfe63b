-- What the functions inside of `feed` do, byte by byte.
use Rattle.std.specs.Prelude.{ℕ, ◌+◌, ◌≤◌, ◌≡◌, List, ◌∷◌, length}
use Rattle.base.specs.Put.{Wrote}
use Rattle.tags_line.specs.Lines.{answers}
use Rattle.tags_stream.specs.Pieces.{ended, rest, held, kept_by}
use Rattle.tags_stream.specs.declared.Line.{Line}

-- What is left of the work gives what the whole gives: behind `l'`, with `s'` to come and `out'` in use up to `u'`, it is the work that was to
-- be done behind `l` with `s`, `out` and `u`.
pub record Onward (l s out : List ℕ) (u : ℕ) (l' s' out' : List ℕ) (u' : ℕ) : Type 0 where
  pub prints : (r : ℕ) (m : List ℕ) → Wrote out' u' (answers (ended l' s')) r m → Wrote out u (answers (ended l s)) r m
  pub keeps : held (rest l' s') ≡ held (rest l s)

-- the line with so many bytes kept
abbrev pub with_kept : Line → ℕ → Line
with_kept line n = record { bytes = line.bytes; kept = n }

-- one byte
pub record Stepped (b : ℕ) (line : Line) (out : List ℕ) (u r : ℕ) (line' : Line) (out' : List ℕ) : Type 0 where
  pub long : length line'.bytes ≡ length line.bytes
  pub holds : line'.kept ≤ 256
  pub most : r ≤ u + 64
  pub same : (s : List ℕ) → Onward (kept_by line) (b ∷ s) out u (kept_by line') s out' r

-- all bytes of a piece
pub record Ran (piece : List ℕ) (line : Line) (out : List ℕ) (r : ℕ) (line' : Line) (out' : List ℕ) : Type 0 where
  pub holds : line'.kept ≤ 256
  pub counts : line'.kept ≡ length (kept_by line')
  pub fits : r ≤ length out
  pub prints : Wrote out 0 (answers (ended (kept_by line) piece)) r out'
  pub keeps : kept_by line' ≡ held (rest (kept_by line) piece)
