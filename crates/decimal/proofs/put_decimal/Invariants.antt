use Prim.Native.Nat.{◌^◌, ◌≤◌, ◌<◌}
use mathlib.Core.Path.{◌≡◌}
use lib.ListN.{length, drop}
use Rattle.decimal.specs.Decimals.{decimal_before, decimal}
use Rattle.decimal.proofs.put_decimal.Given as goal

abbrev pub invariant-loop-rest : goal.invariant-loop-rest
invariant-loop-rest l = (0 < l.i) × (l.i ≤ 20) × (length l.digits ≡ 20) × (l.rest < 10 ^ l.i) × (decimal_before l.rest l.rest (drop l.i l.digits) ≡ decimal l.n)

abbrev pub decreases-loop-rest : goal.decreases-loop-rest
decreases-loop-rest l = l.i
