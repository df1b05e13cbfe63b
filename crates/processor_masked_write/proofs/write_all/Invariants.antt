use Rattle.std.proofs.Common.{◌≡◌, ◌+◌, ◌*◌}
use Rattle.std.proofs.Math.ListN.{drop}
use Rattle.processor_masked_write.specs.Written.{written}
use Rattle.processor_masked_write.proofs.write_all.Given as goal

abbrev pub invariant-loop-i : goal.invariant-loop-i
invariant-loop-i l = written l.memory (l.at + 2 * l.i) l.mask (drop (2 * l.i) l.values) ≡ written l.initial.memory l.at l.mask l.values
