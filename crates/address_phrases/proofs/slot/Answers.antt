use Rattle.address_spec.specs.Spelling.{slot}
use Rattle.address_phrases.proofs.FormReaders.{phrases}
use borrow.Author.Rules.{rules}
use Rattle.address_phrases.proofs.slot.Goals as goal

pub returns-in_err-e : goal.returns-in_err-e
unfolding slot
returns-in_err-e c = search (phrases, c.in_ok-slot.was, c.in_err-e.was, rules)

pub returns-in_err-g : goal.returns-in_err-g
unfolding slot
returns-in_err-g c = search (phrases, c.in_ok-slot.was, c.in_ok-e.was, c.in_err-g.was, rules)

pub returns : goal.returns
unfolding slot
returns c = search (phrases, c.in_ok-slot.was, c.in_ok-e.was, c.in_ok-g.was, rules)
