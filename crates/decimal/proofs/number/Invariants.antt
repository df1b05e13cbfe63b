use Prim.Native.Nat.{◌<◌}
use mathlib.Core.Path.{◌≡◌}
use lib.ListN.{drop}
use Rattle.decimal.specs.Decimals.{unsigned_of, number_from, number_of}
use Rattle.decimal.proofs.number.Given as goal

abbrev pub invariant-loop-c : goal.invariant-loop-c
invariant-loop-c l = (l.n < 18446744073709551616) × (unsigned_of (number_from l.n (drop l.c-index l.s)) ≡ unsigned_of (number_of l.s))
