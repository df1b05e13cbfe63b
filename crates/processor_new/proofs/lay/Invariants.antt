-- The first i records are stored.
use Rattle.std.proofs.Common.{◌≡◌}
use Rattle.processor_build_spec.specs.Plans.{stored}
use Rattle.processor_new.proofs.lay.Given as goal

abbrev pub invariant-loop-i : goal.invariant-loop-i
invariant-loop-i l = l.table ≡ stored l.files l.i l.initial.table
