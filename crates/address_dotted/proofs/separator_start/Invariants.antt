use Prim.Native.Nat.{◌≤◌}
use mathlib.Core.Path.{◌≡◌}
use Rattle.address_readings.specs.Places.{far_start}
use Rattle.address_dotted.proofs.separator_start.Given as goal

abbrev pub invariant-loop-start : goal.invariant-loop-start
invariant-loop-start l = (l.start ≤ l.end) × (far_start l.tag l.start ≡ far_start l.tag l.end)

abbrev pub decreases-loop-start : goal.decreases-loop-start
decreases-loop-start l = l.start
