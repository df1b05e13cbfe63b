use Rattle.tags_stream.proofs.Onward.{keeping_is}
use borrow.Author.Rules.{rules}
use Rattle.tags_stream.proofs.Line.of.Goals as goal

pub returns : goal.returns
returns c = search (keeping_is, rules)
