use Rattle.reply_element.proofs.Bits.{bit_negative, bit_positive}
use borrow.Author.Rules.{rules}
use Rattle.reply_element.proofs.bit.get_bit.Goals as goal

pub returns-then-p : goal.returns-then-p
returns-then-p c = search (bit_negative, rules)

pub returns-else-p : goal.returns-else-p
returns-else-p c = search (bit_positive, rules)
