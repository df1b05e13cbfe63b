use Rattle.address_spec.specs.Spelling.{st_or_a}
use Rattle.address_phrases.proofs.FormReaders.{phrases, a_at, st_at}
use borrow.Author.Rules.{rules}
use Rattle.address_phrases.proofs.st_or_a.Goals as goal

pub returns-in_err-e : goal.returns-in_err-e
unfolding st_or_a
returns-in_err-e c = search (phrases, st_at, c.in_ok-d.was, c.in_err-e.was, rules)

pub returns-in_ok-e : goal.returns-in_ok-e
unfolding st_or_a
returns-in_ok-e c = search (phrases, st_at, c.in_ok-d.was, c.in_ok-e.was, rules)

pub returns-in_ok-d-2 : goal.returns-in_ok-d-2
unfolding st_or_a
returns-in_ok-d-2 c = search (phrases, a_at, c.in_ok-d-2.was, rules)
