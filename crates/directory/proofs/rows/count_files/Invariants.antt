use Prim.Native.Nat.{◌-◌, ◌≤◌}
use mathlib.Core.Path.{◌≡◌}
use lib.ListN.{length}
use Rattle.directory.specs.Passes.{count_from}
use Rattle.directory.specs.Rows.{rows}
use Rattle.directory.proofs.rows.count_files.Given as goal

abbrev pub invariant-loop-at : goal.invariant-loop-at
invariant-loop-at l = (l.n ≤ l.at) × (count_from l.n (rows l.at l.size l.bytes) ≡ count_from 0 (rows l.first l.size l.bytes))

abbrev pub decreases-loop-at : goal.decreases-loop-at
decreases-loop-at l = length l.bytes - l.at
