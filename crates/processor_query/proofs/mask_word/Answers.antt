use Rattle.processor_query.proofs.WordSteps.{mask_cut, mask_else, mask_there}
use borrow.Author.Rules.{rules}
use Rattle.processor_query.proofs.mask_word.Goals as goal

pub returns-then-function-ne171 : goal.returns-then-function-ne171
returns-then-function-ne171 c = search (mask_else, rules)

pub returns-then-s-at-lt2 : goal.returns-then-s-at-lt2
returns-then-s-at-lt2 c = search (mask_cut, rules)

pub returns : goal.returns
returns c = search (mask_there, rules)
