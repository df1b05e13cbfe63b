use mathlib.Core.Path.{◌≡◌}
use lib.ListN.{drop}
use Rattle.base.specs.Chars.{spelled}
use Rattle.base.proofs.spells.Given as goal

abbrev pub invariant-loop-i : goal.invariant-loop-i
invariant-loop-i l = spelled l.any_case (drop l.i l.name) (drop l.i l.s) ≡ spelled l.any_case l.name l.s
