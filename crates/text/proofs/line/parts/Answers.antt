use borrow.Author.Rules.{rules}
use Rattle.text.proofs.Splits.{count_turn, count_done}
use Rattle.text.proofs.line.parts.Goals as goal

pub loop-b-preserved : goal.loop-b-preserved
loop-b-preserved c = search (count_turn, rules)

pub returns : goal.returns
returns c = search (count_done, rules)
