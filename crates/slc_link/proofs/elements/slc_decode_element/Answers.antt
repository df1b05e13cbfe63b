use Rattle.slc_link.proofs.Coding.{decode_known, decode_unknown}
use borrow.Author.Rules.{rules}
use Rattle.slc_link.proofs.elements.slc_decode_element.Goals as goal

pub returns-in-Some : goal.returns-in-Some
returns-in-Some c = search (decode_known, rules)

pub returns-in-None : goal.returns-in-None
returns-in-None c = search (decode_unknown, rules)
