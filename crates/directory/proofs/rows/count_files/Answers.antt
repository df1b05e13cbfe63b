use borrow.Author.Rules.{rules}
use Rattle.directory.proofs.FirstPass.{count_done, count_stop, count_few, count_turn, count_last}
use Rattle.directory.proofs.rows.count_files.Goals as goal

pub returns-in_err-n : goal.returns-in_err-n
returns-in_err-n c = search (count_stop, rules)

pub loop-at-preserved : goal.loop-at-preserved
loop-at-preserved c = (search (count_few, rules), count_turn _ c.requires.1 _ _ _ _ c.loop-at.invariant.1 _ _ (search rules) c.row_at.ensures c.count_row.ensures _ (cc))

pub returns-in_ok-n : goal.returns-in_ok-n
returns-in_ok-n c = count_last _ c.requires.1 _ _ _ _ c.loop-at.invariant.1 _ _ (search rules) c.row_at.ensures c.count_row.ensures _ (cc) (search rules)

pub returns : goal.returns
returns c = search (count_done, rules)
