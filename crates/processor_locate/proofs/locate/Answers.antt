use native.Mathlib.Omega.{arith}
use Rattle.processor_locate.proofs.Locating.{product_fits, offset_fits, end_fits, located, no_record, no_type_lem, too_long}
use borrow.Author.Rules.{rules}
use Rattle.processor_locate.proofs.locate.Goals as goal

pub returns-in_err-r : goal.returns-in_err-r
returns-in_err-r c = search (no_record, rules)

pub returns-then-r-q : goal.returns-then-r-q
returns-then-r-q c = search (no_type_lem, rules)

pub overflow_mul-offset : goal.overflow_mul-offset
overflow_mul-offset c = search (product_fits, rules)

pub overflow_add-offset : goal.overflow_add-offset
overflow_add-offset c = offset_fits _ _ _ (omega arith) c.simulated_size.ensures _ _ (omega arith) (omega arith)

pub overflow_add-offset-2 : goal.overflow_add-offset-2
overflow_add-offset-2 c = end_fits _ _ _ (omega arith) c.simulated_size.ensures _ _ (omega arith) (omega arith) _ (omega arith)

pub returns-then-from-offset : goal.returns-then-from-offset
returns-then-from-offset c =
    too_long _ _ _ c.in_ok-r.was (omega arith) c.simulated_size.ensures c.from.ensures c.from-2.ensures c.from-4.ensures c.from-3.ensures c.if-from-offset.true

pub returns : goal.returns
returns c =
    located _ _ _ c.in_ok-r.was (omega arith) c.simulated_size.ensures c.from.ensures c.from-2.ensures c.from-4.ensures c.from-3.ensures c.if-from-offset.false _ c.from-5.ensures
