use Rattle.tags_stream.proofs.Onward.{step_line, step_byte, step_full}
use borrow.Author.Rules.{rules}
use Rattle.tags_stream.proofs.Line.step.Goals as goal

pub returns-then-b-eq10 : goal.returns-then-b-eq10
returns-then-b-eq10 c = search (step_line, rules)

pub returns-then-kept-lt256 : goal.returns-then-kept-lt256
returns-then-kept-lt256 c = search (step_byte, rules)

pub returns : goal.returns
returns c = search (step_full, rules)
