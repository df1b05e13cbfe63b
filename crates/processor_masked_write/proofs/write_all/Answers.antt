use Rattle.std.proofs.Common.{◌-◌, ◌*◌, arith, length}
use lib.ListN.{length-set}
use Rattle.processor_masked_write.proofs.Turns.{begins, goes, ends_odd, ends_even}
use Rattle.processor_masked_write.proofs.write_all.Goals as goal

pub loop-i-init : goal.loop-i-init
loop-i-init c = begins _ _ _ _

pub bounds-memory-p-in-loop-i-3 : goal.bounds-memory-p-in-loop-i-3
bounds-memory-p-in-loop-i-3 c = simp length-set (omega arith)

pub loop-i-preserved : goal.loop-i-preserved
loop-i-preserved c =
    goes c.args.memory.now c.loop-i.memory c.args.at (2 * c.loop-i.i) c.args.mask c.args.values.now _ _ _ _ (omega arith) (omega arith) (omega arith) c.word.ensures c.word-in-loop-i.ensures
    c.mixed-w.ensures (omega arith) c.loop-i.invariant

pub shape_of-memory-then-n-eq1 : goal.shape_of-memory-then-n-eq1
shape_of-memory-then-n-eq1 c = simp length-set (omega arith)

pub returns-then-n-eq1 : goal.returns-then-n-eq1
returns-then-n-eq1 c =
    ends_odd c.args.memory.now c.loop-i.memory c.args.at (length c.args.values.now - 1) c.args.mask c.args.values.now _ (2 * c.loop-i.i) (omega arith) (omega arith) (omega arith)
    c.mixed_byte.ensures c.loop-i.invariant

pub returns-else-n-eq1 : goal.returns-else-n-eq1
returns-else-n-eq1 c = ends_even c.args.memory.now c.loop-i.memory c.args.at (2 * c.loop-i.i) c.args.mask c.args.values.now (omega arith) c.loop-i.invariant
