use mathlib.Core.Path.{◌≡◌}
use lib.ListN.{drop}
use Rattle.parser_spec.specs.Characters.{character}
use Rattle.address_spec.specs.Spelling.{separates, cuts, element_name}
use Rattle.address_timers.proofs.element_name.Given as goal

abbrev pub invariant-loop-k : goal.invariant-loop-k
invariant-loop-k l = cuts character separates l.k (drop l.c.i l.s) ≡ element_name character separates (drop l.c.i l.s)
