use Rattle.processor_locate.proofs.Locating.{part_none, part_there}
use borrow.Author.Rules.{rules}
use Rattle.processor_locate.proofs.part.Goals as goal

pub returns-then-s-at : goal.returns-then-s-at
returns-then-s-at c = search (part_none, rules)

pub returns : goal.returns
returns c = search (part_there, rules)
