use native.Mathlib.Omega.{arith}
use lib.ListN.{length-set}
use borrow.Author.Rules.{rules}
use Rattle.decimal.proofs.Decimals.{decimal_places, decimal_fewer, decimal_turn, decimal_start, decimal_puts}
use Rattle.decimal.proofs.put_decimal.Goals as goal

pub loop-rest-init : goal.loop-rest-init
loop-rest-init c = search (decimal_start, rules)

pub loop-rest-preserved : goal.loop-rest-preserved
loop-rest-preserved c = search (decimal_places, decimal_fewer, decimal_turn, rules)

pub slice_bounds-put_all-end : goal.slice_bounds-put_all-end
slice_bounds-put_all-end c = simp length-set (omega arith)

pub returns : goal.returns
returns c = search (decimal_puts, rules)
