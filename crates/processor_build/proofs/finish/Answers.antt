use Rattle.processor_build.proofs.Finishing.{finish_refused, finish_done}
use borrow.Author.Rules.{rules}
use Rattle.processor_build.proofs.finish.Goals as goal

pub returns-in-Err : goal.returns-in-Err
returns-in-Err c = search (finish_refused, rules)

pub returns-in-Ok : goal.returns-in-Ok
returns-in-Ok c = search (finish_done, rules)
