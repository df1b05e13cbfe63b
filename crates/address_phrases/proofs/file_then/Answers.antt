use Rattle.address_spec.specs.Spelling.{file_before}
use Rattle.address_phrases.proofs.FormReaders.{phrases}
use borrow.Author.Rules.{rules}
use Rattle.address_phrases.proofs.file_then.Goals as goal

pub returns-in_err-e : goal.returns-in_err-e
unfolding file_before
returns-in_err-e c = search (phrases, c.in_ok-f.was, c.in_err-e.was, rules)

pub returns : goal.returns
unfolding file_before
returns c = search (phrases, c.in_ok-f.was, c.in_ok-e.was, rules)
