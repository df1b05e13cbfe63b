use Rattle.tags_stream.proofs.Onward.{feeds}
use borrow.Author.Rules.{rules}
use Rattle.tags_stream.proofs.feed.Goals as goal

pub returns : goal.returns
returns c = search (feeds, rules)
