use borrow.Author.Rules.{rules}
use Rattle.text.proofs.Splits.{part_is}
use Rattle.text.proofs.line.part.Goals as goal

pub returns : goal.returns
returns c = search (part_is, rules)
