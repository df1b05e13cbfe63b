use Rattle.request_frame.proofs.Laid.{field_short, field_long}
use borrow.Author.Rules.{rules}
use Rattle.request_frame.proofs.put.address_field.Goals as goal

pub returns-then-n-lt255 : goal.returns-then-n-lt255
returns-then-n-lt255 c = search (field_short, rules)

pub returns : goal.returns
returns c = search (field_long, rules)
