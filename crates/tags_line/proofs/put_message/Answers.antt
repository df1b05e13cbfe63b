use Rattle.tags_line.proofs.Shown.{message_past, message_short, message_laid}
use borrow.Author.Rules.{rules}
use Rattle.tags_line.proofs.put_message.Goals.{then-out-at-via-then-out-at, then-out-at-via-else-out-at+then-out-at-2}
use Rattle.tags_line.proofs.put_message.Goals as goal

pub returns-then-out-at : goal.returns-then-out-at
returns-then-out-at c = elim c.then-out-at.branch [ then-out-at-via-then-out-at w ↦ search (message_past, rules) | then-out-at-via-else-out-at+then-out-at-2 w ↦ search (message_short, rules) ]

pub returns : goal.returns
returns c = search (message_laid, rules)
