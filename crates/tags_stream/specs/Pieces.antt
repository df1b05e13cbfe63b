-- The same by pieces of the input, in bounded memory: what a piece prints, and what is kept of the line that goes on behind it.
use Rattle.std.specs.Prelude.{ℕ, ◌/◌, ◌≤◌, min, ◌≡◌, List, [], ◌∷◌, ◌++◌, cond, leb, eqb, length, take, drop, replicate}
use Rattle.base.specs.Put.{put, Wrote, Laid, laid}
use Rattle.tags_line.specs.Lines.{asked, answer, answers, tags}
use Rattle.tags_stream.specs.declared.Line.{Line}
use Rattle.tags_stream.specs.declared.Fed.{Fed}

-- the lines that end in a piece of the input, where `l` is what the first of them has so far
unfoldable pub ended : List ℕ → List ℕ → List (List ℕ)
ended l [] = []
ended l (b ∷ s) = cond (eqb b 10) (l ∷ ended [] s) (ended (l ++ (b ∷ [])) s)

-- the line that has not ended behind the piece
unfoldable pub rest : List ℕ → List ℕ → List ℕ
rest l [] = l
rest l (b ∷ s) = cond (eqb b 10) (rest [] s) (rest (l ++ (b ∷ [])) s)

-- the answer to a line that only the end of the input ends: none where it has no byte
unfoldable pub last : List ℕ → List ℕ
last [] = []
last (b ∷ l) = answer (asked (b ∷ l))

-- what is kept of a line: with more than 255 bytes it is refused, whatever stands behind them
unfoldable pub held : List ℕ → List ℕ
held l = take 256 l

-- the `Line` that keeps `l`, and what a `Line` keeps
abbrev pub keeping : List ℕ → Line
keeping l = record { bytes = put (replicate 256 0) 0 (held l); kept = length (held l) }

abbrev pub kept_by : Line → List ℕ
kept_by line = take line.kept line.bytes

-- ---- the calls
-- `feed`: a piece's bytes are taken as far as the output has 64 for each, so that every answer has room
pub record Feeds (line : Line) (piece out : List ℕ) (r : Fed) (out' : List ℕ) : Type 0 where
  pub taken : r.taken ≡ min (length piece) (length out / 64)
  pub prints : Wrote out 0 (answers (ended (kept_by line) (take r.taken piece))) r.used out'
  pub keeps : r.line ≡ keeping (rest (kept_by line) (take r.taken piece))
  pub fits : r.used ≤ length out'
  pub counts : r.used ≡ length (take r.used out')

-- `finish`: the answer to a line that the end of the input ends; nothing where the output has not 64 bytes
unfoldable pub finish_of : Line → List ℕ → Laid
finish_of line out = cond (leb 64 (length out)) (laid (length (last (kept_by line))) (put out 0 (last (kept_by line)))) (laid 0 out)

pub record Finishes (line : Line) (out : List ℕ) (r : ℕ) (out' : List ℕ) : Type 0 where
  pub is : laid r out' ≡ finish_of line out
  pub fits : r ≤ length out'
  pub counts : r ≡ length (take r out')

-- ---- any cut of the input
-- Calls of `feed` one after the other, each on a piece of what is still to be read, and `finish` at the end: the line that is kept, what is
-- still to be read, and what the calls printed. What a call doesn't take of its piece is still to be read.
pub data Calls : Line → List ℕ → List ℕ → Type 0 where
  finished : {line : Line} {out out' : List ℕ} {r : ℕ} → 64 ≤ length out → Finishes line out r out' → Calls line [] (take r out')
  fed : {line : Line} {out out' input p : List ℕ} {r : Fed} (piece behind : List ℕ) → input ≡ piece ++ behind → Feeds line piece out r out'
      → Calls r.line (drop r.taken piece ++ behind) p → Calls line input (take r.used out' ++ p)

-- they print what the definition of the whole program says, however the input was cut
abbrev pub EveryCut : Type 0
EveryCut = (input printed : List ℕ) → Calls (keeping []) input printed → printed ≡ tags input
