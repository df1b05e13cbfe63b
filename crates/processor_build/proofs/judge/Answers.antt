use Rattle.processor_build.proofs.Judging.{judged_is}
use borrow.Author.Rules.{rules}
use Rattle.processor_build.proofs.judge.Goals as goal

pub returns : goal.returns
returns c = search (judged_is, rules)
