use Prim.Native.Nat.{◌+◌, ◌-◌}
use mathlib.Core.Path.{◌≡◌}
use lib.ListN.{length}
use Rattle.base.specs.Numbers.{low_first}
use Rattle.base.specs.Put.{put}
use Rattle.base.proofs.lay_number.Given as goal

abbrev pub invariant-loop-i : goal.invariant-loop-i
invariant-loop-i l = (length l.out ≡ length l.initial.out) × (put l.out (l.at + l.i) (low_first (l.k - l.i) l.rest) ≡ put l.initial.out l.at (low_first l.k l.n))
