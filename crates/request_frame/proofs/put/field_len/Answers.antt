use Rattle.request_frame.proofs.Laid.{short_len, long_len}
use borrow.Author.Rules.{rules}
use Rattle.request_frame.proofs.put.field_len.Goals as goal

pub returns-else-n-ge255 : goal.returns-else-n-ge255
returns-else-n-ge255 c = search (short_len, rules)

pub returns-then-n-ge255 : goal.returns-then-n-ge255
returns-then-n-ge255 c = search (long_len, rules)
