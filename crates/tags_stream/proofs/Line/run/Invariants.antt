use Prim.Native.Nat.{◌*◌, ◌≤◌}
use mathlib.Core.Path.{◌≡◌}
use lib.ListN.{length, drop}
use Rattle.tags_stream.specs.FeedSteps.{Onward, with_kept}
use Rattle.tags_stream.specs.Pieces.{kept_by}
use Rattle.tags_stream.proofs.Line.run.Given as goal

abbrev pub invariant-loop-b : goal.invariant-loop-b
invariant-loop-b l = (length l.self.bytes ≡ 256)
    × (l.kept ≤ 256)
    × (l.used ≤ 64 * l.b-index)
    × (length l.out ≡ length l.initial.out)
    × Onward (kept_by l.initial.self) l.piece l.initial.out 0 (kept_by (with_kept l.self l.kept)) (drop l.b-index l.piece) l.out l.used
