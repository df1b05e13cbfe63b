use Rattle.element_decode.proofs.DecodeAnswers.{text_put}
use borrow.Author.Rules.{rules}
use Rattle.element_decode.proofs.get.put_text.Goals as goal

pub returns : goal.returns
returns c = search (text_put, rules)
