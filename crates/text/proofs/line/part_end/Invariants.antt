use Prim.Native.Nat.{◌+◌, ◌-◌}
use mathlib.Core.Path.{◌≡◌}
use lib.ListN.{length, drop}
use Rattle.text.specs.Line.{part_at}
use Rattle.text.proofs.line.part_end.Given as goal

abbrev pub invariant-loop-i : goal.invariant-loop-i
invariant-loop-i l = (l.i - l.at) + length (part_at l.by 0 (drop l.i l.s)) ≡ length (part_at l.by 0 (drop l.at l.s))
