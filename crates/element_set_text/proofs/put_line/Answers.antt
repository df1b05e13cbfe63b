use Rattle.element_set_text.proofs.SetText.{line_stored}
use borrow.Author.Rules.{rules}
use Rattle.element_set_text.proofs.put_line.Goals as goal

pub returns : goal.returns
returns c = search (line_stored, rules)
