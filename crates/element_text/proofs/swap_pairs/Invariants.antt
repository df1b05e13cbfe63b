use Prim.Native.Nat.{◌*◌}
use mathlib.Core.Path.{◌≡◌}
use lib.ListN.{length, drop}
use Rattle.base.specs.Put.{put}
use Rattle.element_text.specs.Text.{swap_pairs}
use Rattle.element_text.proofs.swap_pairs.Given as goal

abbrev pub invariant-loop-i : goal.invariant-loop-i
invariant-loop-i l = (length l.bytes ≡ length l.initial.bytes) × (put l.bytes (2 * l.i) (swap_pairs (drop (2 * l.i) l.bytes)) ≡ swap_pairs l.initial.bytes)
