use borrow.Author.Rules.{rules}
use Rattle.decimal.proofs.Signs.{signed_fits, signed_counts, signed_minus, signed_plain}
use Rattle.decimal.proofs.put_signed.Goals as goal

pub slice_bounds-text-end : goal.slice_bounds-text-end
slice_bounds-text-end c = search (signed_fits, rules)

pub slice_bounds-put_all-end : goal.slice_bounds-put_all-end
slice_bounds-put_all-end c = search (signed_counts, rules)

pub returns-then-n-lt0 : goal.returns-then-n-lt0
returns-then-n-lt0 c = search (signed_minus, rules)

pub returns : goal.returns
returns c = search (signed_plain, rules)
