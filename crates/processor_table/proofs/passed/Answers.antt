use Rattle.processor_table.proofs.SurveySteps.{number_fits, total_fits}
use borrow.Author.Rules.{rules}
use Rattle.processor_table.proofs.passed.Goals as goal

pub overflow_add-next : goal.overflow_add-next
overflow_add-next c = search (number_fits, rules)

pub overflow_add-total : goal.overflow_add-total
overflow_add-total c = search (total_fits, rules)
