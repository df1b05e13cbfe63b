use Rattle.slc_link.proofs.Coding.{encode_known, encode_unknown}
use borrow.Author.Rules.{rules}
use Rattle.slc_link.proofs.elements.slc_encode_element.Goals as goal

pub returns-in-Some : goal.returns-in-Some
returns-in-Some c = search (encode_known, rules)

pub returns-in-None : goal.returns-in-None
returns-in-None c = search (encode_unknown, rules)
