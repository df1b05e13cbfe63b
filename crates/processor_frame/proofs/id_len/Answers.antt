use Rattle.processor_frame.proofs.Frames.{first_none}
use borrow.Author.Rules.{rules}
use Rattle.processor_frame.proofs.id_len.Goals as goal

pub returns-then-is_empty : goal.returns-then-is_empty
returns-then-is_empty c = search (first_none, rules)
