use Rattle.reply_element.proofs.Elements.{pairs_fit, text_within, text_counts, line_read}
use borrow.Author.Rules.{rules}
use Rattle.reply_element.proofs.line.Goals as goal

pub swap_into-there-requires : goal.swap_into-there-requires
swap_into-there-requires c = search (pairs_fit, rules)

pub slice_bounds-pairs-end : goal.slice_bounds-pairs-end
slice_bounds-pairs-end c = search (text_within, rules)

pub slice_bounds-put_all-end : goal.slice_bounds-put_all-end
slice_bounds-put_all-end c = search (text_counts, rules)

pub returns : goal.returns
returns c = search (line_read, rules)
