use Rattle.slc_link.proofs.Calling.{sets}
use borrow.Author.Rules.{rules}
use Rattle.slc_link.proofs.simulator.slc_set.Goals as goal

pub returns : goal.returns
returns c = search (sets, rules)
