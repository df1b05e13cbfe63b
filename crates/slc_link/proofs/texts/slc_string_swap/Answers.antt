use Rattle.link_texts.proofs.TextAnswers.{swaps}
use borrow.Author.Rules.{rules}
use Rattle.slc_link.proofs.texts.slc_string_swap.Goals as goal

pub returns : goal.returns
returns c = search (swaps, rules)
