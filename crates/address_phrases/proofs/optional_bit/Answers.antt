use Rattle.address_spec.specs.Spelling.{optional_bit}
use Rattle.address_phrases.proofs.FormReaders.{phrases}
use borrow.Author.Rules.{rules}
use Rattle.address_phrases.proofs.optional_bit.Goals as goal

pub returns-in_err-n : goal.returns-in_err-n
unfolding optional_bit
returns-in_err-n c = search (phrases, c.in_err-n.was, rules)

pub returns : goal.returns
unfolding optional_bit
returns c = search (phrases, c.in_ok-n.was, rules)
