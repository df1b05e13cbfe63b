use Rattle.link_processor.proofs.Telling.{is_numbered}
use borrow.Author.Rules.{rules}
use Rattle.slc_link.proofs.simulator.slc_pccc.Goals as goal

pub returns : goal.returns
returns c = search (is_numbered, rules)
