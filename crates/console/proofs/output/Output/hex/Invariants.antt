use Rattle.std.proofs.Common.{◌≡◌, ℕ, List, ◌++◌}
use Rattle.std.specs.Slice.Iter.{chunks_rest, chunks_size}
use Rattle.text.specs.Hex.{hex}
use Rattle.console.specs.Said.{Said}
use Rattle.console.proofs.output.Output.hex.Given as goal

abbrev pub invariant-loop-piece : goal.invariant-loop-piece
invariant-loop-piece g l =
    (goal.iterator-loop-piece g).can_next l.piece-iterator
    × (goal.iterator-loop-piece g).is_finite l.piece-iterator
    × (chunks_size l.piece-iterator ≡ 256)
    × ((done : List ℕ) × Said l.initial.self.bytes l.initial.self.pending (hex done) l.self.pending l.self.bytes × (done ++ chunks_rest l.piece-iterator ≡ l.bytes))
