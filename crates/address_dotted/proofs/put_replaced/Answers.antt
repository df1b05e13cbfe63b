use Rattle.address_dotted.proofs.Dotting.{start_counts, replaced_laid}
use borrow.Author.Rules.{rules}
use Rattle.address_dotted.proofs.put_replaced.Goals as goal

pub slice_bounds-put_all-end : goal.slice_bounds-put_all-end
slice_bounds-put_all-end c = search (start_counts, rules)

pub returns : goal.returns
returns c = search (replaced_laid, rules)
