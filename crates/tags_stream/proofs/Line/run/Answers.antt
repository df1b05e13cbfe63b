use borrow.Author.Rules.{rules}
use native.Mathlib.Omega.{arith}
use Rattle.tags_stream.proofs.Onward.{run_turn, run_done}
use Rattle.tags_stream.proofs.Line.run.Goals as goal

pub loop-b-preserved : goal.loop-b-preserved
loop-b-preserved c = (search rules, search rules, omega arith, search rules, search (run_turn, rules))

pub returns : goal.returns
returns c = search (run_done, rules)
