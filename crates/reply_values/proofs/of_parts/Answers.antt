use Rattle.reply_values_spec.proofs.ReplyAnswers.{parts_none, parts_cut, parts_past, parts_read}
use borrow.Author.Rules.{rules}
use Rattle.reply_values.proofs.of_parts.Goals as goal

pub returns-then-n-eq0 : goal.returns-then-n-eq0
returns-then-n-eq0 c = search (parts_none, rules)

pub returns-then-rest-least : goal.returns-then-rest-least
returns-then-rest-least c = search (parts_cut, rules)

pub returns-then-last-index : goal.returns-then-last-index
returns-then-last-index c = search (parts_past, rules)

pub returns : goal.returns
returns c = search (parts_read, rules)
