use Rattle.processor_respond.proofs.Access.{stored, stored_bad}
use Rattle.processor_refinement.proofs.Replying.{told}
use borrow.Author.Rules.{rules}
use Rattle.processor_respond.proofs.store.Goals as goal

pub returns-in_default : goal.returns-in_default
returns-in_default c = search (stored_bad, told, rules)

pub returns : goal.returns
returns c = search (stored, told, rules)
