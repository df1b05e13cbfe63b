use Rattle.processor_frame.proofs.DiagnosticData.{text_length_lem, text_spaced}
use borrow.Author.Rules.{rules}
use Rattle.processor_frame.proofs.spaced.Goals as goal

pub slice_bounds-put_all-end-2 : goal.slice_bounds-put_all-end-2
slice_bounds-put_all-end-2 c = search (text_length_lem, rules)

pub returns : goal.returns
returns c = search (text_spaced, rules)
