use Rattle.processor_query.proofs.WordSteps.{last_a1, last_else}
use borrow.Author.Rules.{rules}
use Rattle.processor_query.proofs.last_address.Goals as goal

pub returns-then-function-eq161 : goal.returns-then-function-eq161
returns-then-function-eq161 c = search (last_a1, rules)

pub returns : goal.returns
returns c = search (last_else, rules)
