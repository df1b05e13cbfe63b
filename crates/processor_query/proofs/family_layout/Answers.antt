use Rattle.processor_query.proofs.Family.{first_narrow, layout_is, row_narrow, text_length_lem}
use borrow.Author.Rules.{rules}
use Rattle.processor_query.proofs.family_layout.Goals as goal

pub slice_bounds-sys0_info-end : goal.slice_bounds-sys0_info-end
slice_bounds-sys0_info-end c = search (text_length_lem, rules)

pub overflow_cast-result : goal.overflow_cast-result
overflow_cast-result c = search (first_narrow, rules)

pub overflow_cast-result-2 : goal.overflow_cast-result-2
overflow_cast-result-2 c = search (row_narrow, rules)

pub returns : goal.returns
returns c = search (layout_is, rules)
