use Rattle.processor_refinement.proofs.Replying.{told_there}
use borrow.Author.Rules.{rules}
use Rattle.processor_refinement.proofs.answer.Goals as goal

pub returns : goal.returns
returns c = search (told_there, rules)
