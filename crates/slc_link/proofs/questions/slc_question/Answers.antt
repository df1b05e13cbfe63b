use Rattle.link_texts.proofs.TextAnswers.{says}
use borrow.Author.Rules.{rules}
use Rattle.slc_link.proofs.questions.slc_question.Goals as goal

pub returns : goal.returns
returns c = search (says, rules)
