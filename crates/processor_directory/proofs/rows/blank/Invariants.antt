use mathlib.Core.Path.{◌≡◌}
use Rattle.processor_directory.specs.StoredRows.{zeros, marked}
use Rattle.processor_directory.proofs.rows.blank.Given as goal

abbrev pub invariant-loop-k : goal.invariant-loop-k
invariant-loop-k l = l.d ≡ marked l.first l.row zeros l.k
