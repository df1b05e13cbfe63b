-- What the core says of the survey is what the call says of the table.
use Rattle.processor_element_core.proofs.AccessByTable.{reads}
use borrow.Author.Rules.{rules}
use Rattle.processor_element.proofs.read.Goals as goal

pub returns : goal.returns
returns c = search (reads, rules)
