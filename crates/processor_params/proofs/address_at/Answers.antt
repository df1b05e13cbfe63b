use Rattle.processor_params.proofs.HeaderReader.{next_within, no_address_lem, short_address, cut_address, long_address}
use borrow.Author.Rules.{rules}
use Rattle.processor_params.proofs.address_at.Goals as goal

pub returns-in_err-b : goal.returns-in_err-b
returns-in_err-b c = search (no_address_lem, rules)

pub returns-then-b : goal.returns-then-b
returns-then-b c = short_address _ _ _ c.byte_at.ensures _ _ c.in_ok-b.was _ c.if-b.true c.from.ensures

pub overflow_sub-bytes : goal.overflow_sub-bytes
overflow_sub-bytes c = search (next_within, rules)

pub returns-then-bytes-next-lt2 : goal.returns-then-bytes-next-lt2
returns-then-bytes-next-lt2 c = search (cut_address, rules)

pub returns : goal.returns
returns c = search (long_address, rules)
