use native.Mathlib.Omega.{arith}
use Prim.Native.Nat.{◌+◌, ◌*◌, ◌<◌}
use borrow.Author.Rules.{rules}
use Rattle.text.proofs.Pairs.{digit_at}
use Rattle.text.proofs.Exact.{value_fits, value_turn}
use Rattle.text.proofs.hex.value.Goals as goal

pub overflow_mul-n : goal.overflow_mul-n
overflow_mul-n c = let k : c.loop-c.n * 16 + 0 < 4294967296 = value_fits c.loop-c.c-index _ _ (omega arith) c.loop-c.invariant.0 (omega arith) in search rules

pub overflow_add-n : goal.overflow_add-n
overflow_add-n c = let k : c.loop-c.n * 16 + c.from.result < 4294967296 = value_fits c.loop-c.c-index _ _ (omega arith) c.loop-c.invariant.0 (omega (arith, digit_at c.args.s.now c.loop-c.c-index c.requires.1 (omega arith))) in search rules

pub loop-c-preserved : goal.loop-c-preserved
loop-c-preserved c = value_turn _ _ _ c.loop-c.invariant.1 c.loop-c.invariant.0 _ c.requires.1 (omega arith) (omega arith)
