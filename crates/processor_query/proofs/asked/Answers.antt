use native.Mathlib.Omega.{arith}
use Rattle.processor_query.proofs.QueryOf.{no_function, of_diagnostic, of_function, of_neither}
use borrow.Author.Rules.{rules}
use Rattle.processor_query.proofs.asked.Goals as goal

pub returns-then-command-n : goal.returns-then-command-n
returns-then-command-n c = search (no_function, rules)

pub returns-then-command-n-eq15 : goal.returns-then-command-n-eq15
returns-then-command-n-eq15 c = search (of_function, rules)

pub returns-then-function-eq3 : goal.returns-then-function-eq3
returns-then-function-eq3 c = search (of_diagnostic, rules)

pub returns : goal.returns
returns c = of_neither c.args.slc c.args.command.now c.id_len-n.result _ c.id_len-n.ensures.0 (omega arith) c.if-command-n-eq15.false c.else-command-n-eq6.either c.plain-2.ensures
