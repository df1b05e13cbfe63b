use Prim.Native.Nat.{◌+◌, ◌-◌}
use mathlib.Core.Path.{◌≡◌}
use lib.ListN.{drop}
use Rattle.parser_spec.specs.DecimalNumbers.{digit_run}
use Rattle.parser.proofs.digit_run.Given as goal

abbrev pub invariant-loop-i : goal.invariant-loop-i
invariant-loop-i l = (l.i - l.at) + digit_run (drop l.i l.s) ≡ digit_run (drop l.at l.s)
