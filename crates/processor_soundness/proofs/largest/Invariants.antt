use Rattle.std.proofs.Common.{◌≡◌}
use Rattle.std.proofs.Math.ListN.{drop}
use Rattle.processor_soundness.specs.Tests.{largest_from, largest}
use Rattle.processor_soundness.proofs.largest.Given as goal

abbrev pub invariant-loop-b : goal.invariant-loop-b
invariant-loop-b l = largest_from l.most (drop l.b-index l.b-items) ≡ largest l.fn.text
