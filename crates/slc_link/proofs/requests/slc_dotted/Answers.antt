use Rattle.link_texts.proofs.TextAnswers.{dots}
use borrow.Author.Rules.{rules}
use Rattle.slc_link.proofs.requests.slc_dotted.Goals as goal

pub returns : goal.returns
returns c = search (dots, rules)
