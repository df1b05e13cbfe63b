use borrow.Author.Rules.{rules}
use Rattle.tags.proofs.AllRead.{feed_keeps, all_read}
use Rattle.tags.proofs.answer_all.Goals as goal

pub loop-left-preserved : goal.loop-left-preserved
loop-left-preserved g c = (search rules, search (feed_keeps, rules))

pub returns : goal.returns
returns g c = search (all_read, rules)
