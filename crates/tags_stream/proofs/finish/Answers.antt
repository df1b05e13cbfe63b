use Rattle.tags_stream.proofs.Onward.{finish_none, finish_short, finish_answer}
use borrow.Author.Rules.{length_unmapped, rules}
use Rattle.tags_stream.proofs.finish.Goals.{then-kept-eq0-via-then-kept-eq0, then-kept-eq0-via-else-kept-eq0+then-out-lt64}
use Rattle.tags_stream.proofs.finish.Goals as goal

pub returns-then-kept-eq0 : goal.returns-then-kept-eq0
returns-then-kept-eq0 c = elim c.then-kept-eq0.branch [ then-kept-eq0-via-then-kept-eq0 w ↦ search (finish_none, length_unmapped, rules) | then-kept-eq0-via-else-kept-eq0+then-out-lt64 w ↦ search (finish_short, rules) ]

pub returns : goal.returns
returns c = search (finish_answer, rules)
