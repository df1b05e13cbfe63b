use Rattle.link_processor.proofs.Telling.{raises}
use borrow.Author.Rules.{rules}
use Rattle.slc_link.proofs.simulator.slc_new.Goals as goal

pub returns : goal.returns
returns c = search (raises, rules)
