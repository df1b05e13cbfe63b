use borrow.Author.Rules.{rules}
use Rattle.text.proofs.Pairs.{text_said, unhex_done}
use Rattle.text.proofs.hex.unhex.Goals as goal

pub returns : goal.returns
returns c = search (text_said, unhex_done, rules)
