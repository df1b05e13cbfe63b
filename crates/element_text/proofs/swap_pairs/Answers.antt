use Prim.Native.Nat.{◌*◌}
use mathlib.Core.Path.{refl, ◌∙◌}
use native.Mathlib.Omega.{arith}
use Rattle.element_text.proofs.Swap.{swap_start, swap_turn, swap_end}
use Rattle.element_text.proofs.swap_pairs.Goals as goal

pub loop-i-init : goal.loop-i-init
loop-i-init c = (refl, swap_start _)

pub loop-i-preserved : goal.loop-i-preserved
loop-i-preserved c =
    (c.swap.ensures.len ∙ c.loop-i.invariant.0, rw c.swap.ensures.after (swap_turn _ c.loop-i.bytes (2 * c.loop-i.i) c.loop-i.invariant.1 (omega arith) (omega arith)))

pub returns : goal.returns
returns c = swap_end _ c.loop-i.bytes (2 * c.loop-i.i) c.loop-i.invariant.1 (omega arith) (omega arith)
