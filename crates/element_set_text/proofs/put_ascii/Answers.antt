use Rattle.element_set_text.proofs.SetText.{ascii_stored}
use borrow.Author.Rules.{rules}
use Rattle.element_set_text.proofs.put_ascii.Goals as goal

pub returns : goal.returns
returns c = search (ascii_stored, rules)
