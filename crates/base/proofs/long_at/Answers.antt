use Rattle.base.proofs.Numbers.{none_there, long_there, short_there}
use borrow.Author.Rules.{rules}
use Rattle.base.proofs.long_at.Goals as goal

pub returns-then-s-at : goal.returns-then-s-at
returns-then-s-at c = search (none_there, rules)

pub returns-then-s-at-lt2 : goal.returns-then-s-at-lt2
returns-then-s-at-lt2 c = search (short_there, rules)

pub returns : goal.returns
returns c = search (long_there, rules)
