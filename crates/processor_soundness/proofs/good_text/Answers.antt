use Rattle.processor_soundness.proofs.TypeText.{unmapped, text_long, text_good, text_parts, prefix_length}
use borrow.Author.Rules.{rules}
use Rattle.processor_soundness.proofs.good_text.Goals as goal

pub returns-then-len-gt11 : goal.returns-then-len-gt11
returns-then-len-gt11 c = search (text_long, rules)

pub returns-then-largest-lt128 : goal.returns-then-largest-lt128
returns-then-largest-lt128 c = search (text_good, rules)

pub slice_bounds-all_small-end : goal.slice_bounds-all_small-end
slice_bounds-all_small-end c = search (prefix_length, unmapped, rules)

pub returns : goal.returns
returns c = search (text_parts, rules)
