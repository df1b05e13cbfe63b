use Rattle.request_untagged.proofs.UntaggedSent.{far, read_none, read_sent}
use borrow.Author.Rules.{rules}
use Rattle.request_untagged.proofs.file_directory_read_request.Goals as goal

pub returns-in_default : goal.returns-in_default
returns-in_default c = search (far, rules)

pub returns-then-out-lt-ROOM : goal.returns-then-out-lt-ROOM
returns-then-out-lt-ROOM c = read_none _ _ _ _ _ c.in-Ok.ensures.0 c.if-out-lt-ROOM.true

pub returns : goal.returns
returns c = read_sent _ _ (search (c.well_formed, rules)) (search (c.well_formed, rules)) _ _ _ _ c.in-Ok.ensures c.if-out-lt-ROOM.false c.command-a.ensures c.two_addresses.ensures
