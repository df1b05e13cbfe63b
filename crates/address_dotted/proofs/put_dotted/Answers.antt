use Rattle.address_dotted.proofs.Dotting.{same_laid, fits_replaced, laid_replaced}
use borrow.Author.Rules.{rules}
use Rattle.address_dotted.proofs.put_dotted.Goals as goal

pub returns-then-not-timed : goal.returns-then-not-timed
returns-then-not-timed c = search (same_laid, rules)

pub put_replaced-requires : goal.put_replaced-requires
put_replaced-requires c = search (fits_replaced, rules)

pub returns : goal.returns
returns c = search (laid_replaced, rules)
