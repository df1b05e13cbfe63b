use Rattle.address_dotted.proofs.Dotting.{start_here, start_on, start_first}
use borrow.Author.Rules.{rules}
use Rattle.address_dotted.proofs.separator_start.Goals.{then-loop-start-test+else-tag-start-ge128, else-loop-start-test}
use Rattle.address_dotted.proofs.separator_start.Goals as goal

pub loop-start-preserved : goal.loop-start-preserved
loop-start-preserved c = (search rules, search (start_on, rules))

pub returns : goal.returns
returns c = elim c.loop-start-test.branch [ then-loop-start-test+else-tag-start-ge128 w ↦ search (start_here, rules) | else-loop-start-test w ↦ search (start_first, rules) ]
