use Rattle.processor_build.proofs.Judging.{record_is}
use borrow.Author.Rules.{rules}
use Rattle.processor_build.proofs.record_of.Goals as goal

pub returns : goal.returns
returns c = search (record_is, rules)
