use Rattle.request_frame.proofs.Laid.{command_laid}
use borrow.Author.Rules.{rules}
use Rattle.request_frame.proofs.put.command.Goals as goal

pub returns : goal.returns
returns c = search (command_laid, rules)
