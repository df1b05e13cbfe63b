use Rattle.processor_soundness.proofs.DatalogRoom.{room_none, room_cut, room_long, room_there}
use borrow.Author.Rules.{rules}
use Rattle.processor_soundness.proofs.entry_room.Goals as goal

pub returns-then-log-at : goal.returns-then-log-at
returns-then-log-at c = search (room_none, rules)

pub returns-then-log-at-2 : goal.returns-then-log-at-2
returns-then-log-at-2 c = search (room_cut, rules)

pub returns-then-room-gt257 : goal.returns-then-room-gt257
returns-then-room-gt257 c = search (room_long, rules)

pub returns : goal.returns
returns c = search (room_there, rules)
