use Rattle.processor_element_core.proofs.ElementPlaces.{no_file, other_type, past_end, place_is}
use borrow.Author.Rules.{rules}
use Rattle.processor_element_core.proofs.locate.Goals as goal

pub returns-in_err-r : goal.returns-in_err-r
returns-in_err-r c = rw c.from_residual.ensures (search (no_file, c.in_err-r.was, rules))

pub returns-then-r-code : goal.returns-then-r-code
returns-then-r-code c = search (other_type, c.in_ok-r.was, rules)

pub returns-then-from-size : goal.returns-then-from-size
returns-then-from-size c = search (past_end, c.in_ok-r.was, rules)

pub returns : goal.returns
returns c = search (place_is, c.in_ok-r.was, rules)
