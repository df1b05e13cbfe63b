use Rattle.slc_link.proofs.Calling.{reads}
use borrow.Author.Rules.{rules}
use Rattle.slc_link.proofs.simulator.slc_read.Goals as goal

pub returns : goal.returns
returns c = search (reads, rules)
