use Rattle.processor_respond.proofs.Access.{values_there}
use borrow.Author.Rules.{rules}
use Rattle.processor_respond.proofs.values.Goals as goal

pub returns : goal.returns
returns c = search (values_there, rules)
