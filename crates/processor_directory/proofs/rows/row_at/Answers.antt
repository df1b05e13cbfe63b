use Rattle.processor_directory.proofs.Storing.{place_fits, product_fits}
use borrow.Author.Rules.{rules}
use Rattle.processor_directory.proofs.rows.row_at.Goals as goal

pub overflow_mul-result : goal.overflow_mul-result
overflow_mul-result c = search (product_fits, rules)

pub overflow_add-result : goal.overflow_add-result
overflow_add-result c = search (place_fits, rules)
