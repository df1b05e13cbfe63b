use Rattle.request_untagged.proofs.UntaggedSent.{none, behind}
use borrow.Author.Rules.{rules}
use Rattle.request_untagged.proofs.send.Goals as goal

pub returns-then-out-lt-ROOM : goal.returns-then-out-lt-ROOM
returns-then-out-lt-ROOM c = search (none, rules)

pub returns : goal.returns
returns c = behind _ _ (search (c.well_formed, rules)) (search (c.well_formed, rules)) _ c.requires c.if-out-lt-ROOM.false c.command-a.ensures c.put_all.ensures
