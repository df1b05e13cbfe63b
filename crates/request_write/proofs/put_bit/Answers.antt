use Rattle.request_spec.proofs.Supplied.{bit_set, bit_clear}
use borrow.Author.Rules.{rules}
use Rattle.request_write.proofs.put_bit.Goals as goal

pub returns-then-b : goal.returns-then-b
returns-then-b c = search (bit_set, rules)

pub returns : goal.returns
returns c = search (bit_clear, rules)
