use borrow.Author.Rules.{rules}
use Rattle.directory.proofs.SecondPass.{row_within, number_turn, room_turn, files_turn, left_turn, lay_ended, lay_done, lay_last}
use Rattle.directory.proofs.rows.lay_files.Goals as goal

pub lay_row-p-requires : goal.lay_row-p-requires
lay_row-p-requires c = (search (row_within, rules), search rules)

pub loop-at-preserved : goal.loop-at-preserved
loop-at-preserved c = (search (number_turn, rules), search (room_turn, rules), search (files_turn, rules), search (left_turn, rules))

pub returns-then-n-p : goal.returns-then-n-p
returns-then-n-p c = search (lay_done, rules)

pub returns-else-n-p : goal.returns-else-n-p
returns-else-n-p c = lay_last _ c.requires.1 _ _ _ _ _ _ c.loop-at.invariant.3 c.loop-at.invariant.2 _ (search rules) c.row_at.ensures _ _ c.lay_row-p.ensures (search rules)

pub returns : goal.returns
returns c = search (lay_ended, rules)
