use Rattle.reply.proofs.Status.{hex_laid}
use borrow.Author.Rules.{rules}
use Rattle.reply.proofs.lay_hex.Goals as goal

pub returns : goal.returns
returns c = search (hex_laid, rules)
