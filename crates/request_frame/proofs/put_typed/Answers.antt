use Rattle.request_frame.proofs.Laid.{typed_full, typed_laid, typed_length_lem}
use borrow.Author.Rules.{rules}
use Rattle.request_frame.proofs.put_typed.Goals as goal

pub returns-then-out-typed_len : goal.returns-then-out-typed_len
returns-then-out-typed_len c = search (typed_full, typed_length_lem, rules)

pub returns : goal.returns
returns c = search (typed_laid, typed_length_lem, rules)
