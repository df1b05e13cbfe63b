use Rattle.processor_respond.proofs.Access.{diagnosed}
use borrow.Author.Rules.{rules}
use Rattle.processor_respond.proofs.diagnose.Goals as goal

pub returns : goal.returns
returns c = search (diagnosed, rules)
