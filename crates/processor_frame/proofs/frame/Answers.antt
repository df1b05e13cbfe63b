use Rattle.processor_frame.proofs.Frames.{laid_length, framed_there}
use lib.ListN.{length-set}
use borrow.Author.Rules.{rules}
use Rattle.processor_frame.proofs.frame.Goals as goal

pub bounds-reply-n-2 : goal.bounds-reply-n-2
bounds-reply-n-2 c = simp length-set (search (laid_length, rules))

pub bounds-reply-n-3 : goal.bounds-reply-n-3
bounds-reply-n-3 c = simp length-set (search (laid_length, rules))

pub bounds-reply-n-4 : goal.bounds-reply-n-4
bounds-reply-n-4 c = simp length-set (search (laid_length, rules))

pub returns : goal.returns
returns c = search (framed_there, rules)
