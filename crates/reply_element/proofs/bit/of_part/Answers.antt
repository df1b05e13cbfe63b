use Rattle.reply_element.proofs.Bits.{part_short, word_bit, long_bit, no_bit}
use borrow.Author.Rules.{rules}
use Rattle.reply_element.proofs.bit.of_part.Goals as goal

pub returns-then-part-least : goal.returns-then-part-least
returns-then-part-least c = search (part_short, rules)

pub returns-in-Int : goal.returns-in-Int
returns-in-Int c = search (word_bit, rules)

pub returns-in-DInt : goal.returns-in-DInt
returns-in-DInt c = search (long_bit, rules)

pub returns-in-Real : goal.returns-in-Real
returns-in-Real c = search (no_bit, rules)
