use Prim.Native.Nat.{◌+◌, ◌-◌, ◌≤◌}
use mathlib.Core.Path.{◌≡◌}
use lib.ListN.{length}
use Rattle.directory.specs.Passes.{lay}
use Rattle.directory.specs.Rows.{rows, files_from}
use Rattle.directory.proofs.rows.lay_files.Given as goal

abbrev pub invariant-loop-at : goal.invariant-loop-at
invariant-loop-at l = (l.p.number ≤ l.at + 1) × (l.n ≤ length l.out) × (l.p.at + length (files_from l.p.number (rows l.at l.size l.bytes)) ≡ l.n) × (lay l.out l.p.at (files_from l.p.number (rows l.at l.size l.bytes)) ≡ lay l.initial.out 0 (files_from 0 (rows l.first l.size l.bytes)))

abbrev pub decreases-loop-at : goal.decreases-loop-at
decreases-loop-at l = length l.bytes - l.at
