use Rattle.link_texts.proofs.TextAnswers.{swaps_same}
use borrow.Author.Rules.{rules}
use Rattle.slc_link.proofs.texts.slc_encode_ascii.Goals as goal

pub returns : goal.returns
returns c = search (swaps_same, rules)
