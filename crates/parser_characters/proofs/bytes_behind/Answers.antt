use mathlib.Core.Path.{refl, ◌∙◌}
use Prim.Native.Nat.{◌+◌, ◌*◌, ◌-◌}
use native.Mathlib.Omega.{arith}
use lib.ListN.{length}
use borrow.Author.Rules.{rules}
use Rattle.parser_characters.proofs.CharacterReaders.{behind_none, behind_more, behind_all, number_more, number_small}
use Rattle.parser_characters.proofs.bytes_behind.Goals as goal

pub returns-in_err-a : goal.returns-in_err-a
returns-in_err-a c = behind_none _ _ _ _ _ _ (0, 0) c.loop-r-test.true _ c.byte_in.ensures _ c.in_err-a.was c.from_residual.ensures ∙ c.loop-r.invariant.1

pub overflow_mul-n : goal.overflow_mul-n
overflow_mul-n c =
    let k = (number_more (length c.args.trail.now - c.loop-r.r-index) (length c.args.trail.now - (c.loop-r.r-index + 1)) c.loop-r.n 0 (c.loop-r.n * 64 + 0) (omega arith) (omega arith) refl c.loop-r.invariant.0).1 in
    search rules

pub overflow_add-n : goal.overflow_add-n
overflow_add-n c =
    let k = (number_more (length c.args.trail.now - c.loop-r.r-index) (length c.args.trail.now - (c.loop-r.r-index + 1)) c.loop-r.n c.from.result (c.loop-r.n * 64 + c.from.result) (omega arith) (omega arith) refl c.loop-r.invariant.0).1 in
    search rules

pub loop-r-preserved : goal.loop-r-preserved
loop-r-preserved c = (
  (number_more (length c.args.trail.now - c.loop-r.r-index) (length c.args.trail.now - (c.loop-r.r-index + 1)) c.loop-r.n c.from.result _ (omega arith) (omega arith) refl c.loop-r.invariant.0).0,
  behind_more _ _ _ _ _ _ (0, 0) c.loop-r-test.true _ c.byte_in.ensures _ _ _ c.in_ok-a.was (omega arith) ∙ c.loop-r.invariant.1,
)

pub overflow_add-result : goal.overflow_add-result
overflow_add-result c = let k = number_small _ _ c.loop-r.invariant.0 in search rules

pub returns : goal.returns
returns c = behind_all _ _ _ _ _ _ c.loop-r-test.false ∙ c.loop-r.invariant.1
