use Prim.Native.Nat.{◌+◌, ◌*◌}
use mathlib.Core.Path.{◌≡◌}
use lib.ListN.{length, drop}
use Rattle.base.specs.Put.{put}
use Rattle.text.specs.Hex.{hex}
use Rattle.text.proofs.hex.lay_hex.Given as goal

abbrev pub invariant-loop-b : goal.invariant-loop-b
invariant-loop-b l = (l.p ≡ l.at + 2 * l.b-index) × (length l.out ≡ length l.initial.out) × (put l.out l.p (hex (drop l.b-index l.bytes)) ≡ put l.initial.out l.at (hex l.bytes))
