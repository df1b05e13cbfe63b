use Prim.Native.Nat.{◌*◌}
use mathlib.Core.Path.{◌≡◌}
use lib.ListN.{length, drop}
use Rattle.base.specs.Put.{put}
use Rattle.text.specs.Hex.{pairs}
use Rattle.text.proofs.hex.lay_pairs.Given as goal

abbrev pub invariant-loop-i : goal.invariant-loop-i
invariant-loop-i l = (length l.out ≡ length l.initial.out) × (put l.out l.i (pairs (drop (2 * l.i) l.s)) ≡ put l.initial.out 0 (pairs l.s))
