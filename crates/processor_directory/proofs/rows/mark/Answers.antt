use Rattle.processor_directory.proofs.Storing.{mark_inside, mark_outside}
use borrow.Author.Rules.{rules}
use Rattle.processor_directory.proofs.rows.mark.Goals as goal

pub returns-then-at-lt2793 : goal.returns-then-at-lt2793
returns-then-at-lt2793 c = search (mark_inside, rules)

pub returns-else-at-lt2793 : goal.returns-else-at-lt2793
returns-else-at-lt2793 c = search (mark_outside, rules)
