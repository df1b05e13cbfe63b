use Rattle.request_spec.proofs.Supplied.{string_past, string_short, string_laid}
use borrow.Author.Rules.{rules}
use Rattle.request_write.proofs.put_string.Goals.{then-out-at-via-then-out-at, then-out-at-via-else-out-at+then-out-at-lt86}
use Rattle.request_write.proofs.put_string.Goals as goal

pub returns-then-out-at : goal.returns-then-out-at
returns-then-out-at c = elim c.then-out-at.branch [ then-out-at-via-then-out-at w ↦ search (string_past, rules) | then-out-at-via-else-out-at+then-out-at-lt86 w ↦ search (string_short, rules) ]

pub returns : goal.returns
returns c = search (string_laid, rules)
