use Prim.Native.Nat.{◌+◌}
use mathlib.Core.Path.{◌≡◌}
use lib.ListN.{drop}
use Rattle.parser_spec.specs.Parts.{before_byte}
use Rattle.parser.proofs.find.Given as goal

abbrev pub invariant-loop-i : goal.invariant-loop-i
invariant-loop-i l = l.i + before_byte l.v (drop l.i l.s) ≡ before_byte l.v l.s
