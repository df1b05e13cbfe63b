use Rattle.reply_element.proofs.Bits.{bit_past, bit_only}
use borrow.Author.Rules.{rules}
use Rattle.reply_element.proofs.bit.only.Goals as goal

pub returns-then-index-gt0 : goal.returns-then-index-gt0
returns-then-index-gt0 c = search (bit_past, rules)

pub returns : goal.returns
returns c = search (bit_only, rules)
