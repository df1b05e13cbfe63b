use Rattle.parser_spec.specs.Parts.{count_of}
use Rattle.parser.proofs.PartReaders.{answering}
use borrow.Author.Rules.{rules}
use Rattle.parser.proofs.Cur.count.Goals as goal

pub returns-in_default : goal.returns-in_default
unfolding count_of
returns-in_default c = search (answering, rules)

pub returns-in_err-n : goal.returns-in_err-n
unfolding count_of
returns-in_err-n c = search (answering, c.in_err-n.was, rules)

pub returns-in_err-e : goal.returns-in_err-e
unfolding count_of
returns-in_err-e c = search (answering, c.in_ok-n.was, c.in_err-e.was, rules)

pub returns : goal.returns
unfolding count_of
returns c = search (answering, c.in_ok-n.was, c.in_ok-e.was, rules)
