use Rattle.reply_status_text.proofs.StatusTexts.{no_room, say_told}
use borrow.Author.Rules.{rules}
use Rattle.reply_status_text.proofs.say.Goals as goal

pub returns-then-out-lt-ROOM : goal.returns-then-out-lt-ROOM
returns-then-out-lt-ROOM c = search (no_room, rules)

pub returns : goal.returns
returns c = search (say_told, rules)
