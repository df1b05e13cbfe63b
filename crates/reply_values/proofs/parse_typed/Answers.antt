use Rattle.reply_values_spec.proofs.ReplyAnswers.{bit_read, parts_asked}
use borrow.Author.Rules.{rules}
use Rattle.reply_values.proofs.parse_typed.Goals as goal

pub returns-then-is_bit : goal.returns-then-is_bit
returns-then-is_bit c = search (bit_read, rules)

pub returns : goal.returns
returns c = search (parts_asked, rules)
