use mathlib.Core.Path.{◌≡◌}
use lib.ListN.{drop}
use Rattle.parser_spec.specs.Characters.{well_formed}
use Rattle.parser_characters.proofs.ascii_run.Given as goal

abbrev pub invariant-loop-i : goal.invariant-loop-i
invariant-loop-i l = well_formed (drop l.i l.s) ≡ well_formed l.s
