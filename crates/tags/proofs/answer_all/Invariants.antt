use mathlib.Core.Path.{◌≡◌}
use lib.ListN.{length}
use Rattle.tags_stream.specs.Pieces.{rest, held, kept_by}
use Rattle.tags.proofs.answer_all.Given as goal

abbrev pub invariant-loop-left : goal.invariant-loop-left
invariant-loop-left g l = (length l.out ≡ length l.initial.out)
    × (held (rest (kept_by l.line) l.left) ≡ held (rest (kept_by l.initial.line) l.initial.left))

abbrev pub decreases-loop-left : goal.decreases-loop-left
decreases-loop-left g l = length l.left
