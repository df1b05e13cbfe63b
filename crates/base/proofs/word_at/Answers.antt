use Rattle.base.proofs.Numbers.{none_there, one_there, word_there}
use borrow.Author.Rules.{rules}
use Rattle.base.proofs.word_at.Goals as goal

pub returns-then-s-at : goal.returns-then-s-at
returns-then-s-at c = search (none_there, rules)

pub returns-then-s-at-lt2 : goal.returns-then-s-at-lt2
returns-then-s-at-lt2 c = search (one_there, rules)

pub returns : goal.returns
returns c = search (word_there, rules)
