use mathlib.Core.Path.{◌≡◌, refl}
use native.Mathlib.Nat.{add-zero}
use native.Mathlib.Omega.{arith}
use lib.ListN.{length, length-set, drop_of_length-le}
use Rattle.base.proofs.Parts.{drop_next}
use Rattle.base.proofs.Put.{puts_full, puts_room, lay_turn, lay_done}
use Rattle.base.proofs.put_all.Goals as goal

pub returns-then-out-at : goal.returns-then-out-at
returns-then-out-at c = puts_full _ refl (omega arith)

pub loop-i-init : goal.loop-i-init
loop-i-init c = (refl, rw add-zero)

pub loop-i-preserved : goal.loop-i-preserved
loop-i-preserved c = (simp length-set (omega arith), lay_turn _ _ _ _ _ _ _ (omega arith) (drop_next _ _ c.loop-i-test.true) c.loop-i.invariant.1)

pub returns : goal.returns
returns c =
    let e : c.loop-i.i ≡ length c.args.bytes.now = omega arith in
    puts_room _ refl (omega arith) (rw e at (lay_done c.args.out.now c.loop-i.out c.args.at c.loop-i.i c.args.bytes.now (omega arith) (drop_of_length-le _ c.loop-i-test.false) c.loop-i.invariant.1))
