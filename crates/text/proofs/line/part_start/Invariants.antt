use Prim.Native.Nat.{ℕ, ◌+◌, ◌≤◌}
use mathlib.Core.Path.{◌≡◌}
use lib.ListN.{length, drop}
use Rattle.text.specs.Line.{part_at}
use Rattle.text.proofs.line.part_start.Given as goal

abbrev pub invariant-loop-i : goal.invariant-loop-i
invariant-loop-i l = (l.at ≤ length l.s) × ((j : ℕ) → part_at l.by j (drop l.at l.s) ≡ part_at l.by (l._i + j) l.s)
