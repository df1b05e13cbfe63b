use Rattle.processor_frame.proofs.Frames.{no_id, with_id}
use borrow.Author.Rules.{rules}
use Rattle.processor_frame.proofs.well_formed.Goals as goal

pub returns-then-n-ne0 : goal.returns-then-n-ne0
returns-then-n-ne0 c = search (with_id, rules)

pub returns-else-n-ne0 : goal.returns-else-n-ne0
returns-else-n-ne0 c = search (no_id, rules)
