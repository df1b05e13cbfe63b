use Rattle.element_encode.proofs.EncodeAnswers.{words_laid}
use borrow.Author.Rules.{rules}
use Rattle.element_encode.proofs.set.lay_words.Goals as goal

pub returns : goal.returns
returns c = search (words_laid, rules)
