use Rattle.directory.proofs.SecondPass.{row_room, turn_file, turn_none, turn_reserved}
use borrow.Author.Rules.{rules}
use Rattle.directory.proofs.rows.lay_row.Goals as goal

pub bounds-out-p : goal.bounds-out-p
bounds-out-p c = search (row_room, rules)

pub returns-in-File : goal.returns-in-File
returns-in-File c = turn_file _ _ _ c.in-File.t c.in-File.size _ _ _ _ (search (row_room, rules)) c.in-File.is (cc) c.number_of-number.ensures (cc) (cc)

pub returns-in-Reserved : goal.returns-in-Reserved
returns-in-Reserved c = search (turn_reserved, rules)

pub returns-in-Cut : goal.returns-in-Cut
returns-in-Cut c = turn_none _ _ _ c.in-Cut.is
