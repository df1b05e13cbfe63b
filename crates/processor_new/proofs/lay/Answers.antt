use Rattle.processor_new.proofs.StoredRecords.{none_yet, one_more, in_all}
use borrow.Author.Rules.{rules}
use Rattle.processor_new.proofs.lay.Goals as goal

pub loop-i-init : goal.loop-i-init
loop-i-init c = search (none_yet, rules)

pub loop-i-preserved : goal.loop-i-preserved
loop-i-preserved c = search (one_more, rules)

pub returns : goal.returns
returns c = search (in_all, rules)
