use mathlib.Core.Path.{◌≡◌, refl}
use native.Mathlib.Nat.{add-zero, sub-zero}
use native.Mathlib.Omega.{arith}
use lib.ListN.{length-set}
use Rattle.base.specs.Numbers.{low_first}
use Rattle.base.proofs.Numbers.{low_length, low_next, low_none}
use Rattle.base.proofs.Put.{lay_turn, lay_done}
use Rattle.base.proofs.lay_number.Goals as goal

pub loop-i-init : goal.loop-i-init
loop-i-init c = (refl, rw (add-zero, sub-zero))

pub loop-i-preserved : goal.loop-i-preserved
loop-i-preserved c = (simp length-set (omega arith), lay_turn _ _ _ _ _ _ _ (omega arith) (low_next _ _ _ c.loop-i-test.true) c.loop-i.invariant.1)

pub returns : goal.returns
returns c =
    let e : c.loop-i.i ≡ c.args.k = omega arith in
    rw e at (lay_done c.args.out.now c.loop-i.out c.args.at c.loop-i.i (low_first c.args.k c.args.n) (omega (arith, low_length c.args.k c.args.n)) (low_none _ _ _ c.loop-i-test.false) c.loop-i.invariant.1)
