use Rattle.reply_element.proofs.Elements.{swap_laid}
use borrow.Author.Rules.{rules}
use Rattle.reply_element.proofs.swap_into.Goals as goal

pub returns : goal.returns
returns c = search (swap_laid, rules)
