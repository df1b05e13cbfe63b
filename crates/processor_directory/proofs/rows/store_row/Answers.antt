use Rattle.processor_directory.proofs.Storing.{row_inside, row_outside}
use borrow.Author.Rules.{rules}
use Rattle.processor_directory.proofs.rows.store_row.Goals as goal

pub returns-then-at-lt2791 : goal.returns-then-at-lt2791
returns-then-at-lt2791 c = search (row_inside, rules)

pub returns-else-at-lt2791 : goal.returns-else-at-lt2791
returns-else-at-lt2791 c = search (row_outside, rules)
