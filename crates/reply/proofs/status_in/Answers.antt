use Rattle.reply.proofs.Status.{status_missing}
use borrow.Author.Rules.{rules}
use Rattle.reply.proofs.status_in.Goals as goal

pub returns-in_default : goal.returns-in_default
returns-in_default c = search (status_missing, rules)
