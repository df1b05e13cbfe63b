use Rattle.address_spec.specs.Spelling.{bit_count}
use Rattle.address_phrases.proofs.FormReaders.{phrases}
use borrow.Author.Rules.{rules}
use Rattle.address_phrases.proofs.bit_count.Goals as goal

pub returns-in_err-n : goal.returns-in_err-n
unfolding bit_count
returns-in_err-n c = search (phrases, c.in_ok-b.was, c.in_err-n.was, rules)

pub returns : goal.returns
unfolding bit_count
returns c = search (phrases, c.in_ok-b.was, c.in_ok-n.was, rules)
