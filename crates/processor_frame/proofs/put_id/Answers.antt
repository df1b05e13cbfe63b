use Rattle.processor_frame.proofs.Frames.{id_length, id_put, id_seven}
use lib.ListN.{length-set}
use borrow.Author.Rules.{rules}
use Rattle.processor_frame.proofs.put_id.Goals as goal

pub slice_bounds-put_all-end : goal.slice_bounds-put_all-end
slice_bounds-put_all-end c = search (id_length, rules)

pub returns-then-n-ne7 : goal.returns-then-n-ne7
returns-then-n-ne7 c = search (id_put, rules)

pub bounds-reply-1 : goal.bounds-reply-1
bounds-reply-1 c = simp length-set (search rules)

pub bounds-reply-2 : goal.bounds-reply-2
bounds-reply-2 c = simp length-set (search rules)

pub bounds-reply-3 : goal.bounds-reply-3
bounds-reply-3 c = simp length-set (search rules)

pub bounds-reply-4 : goal.bounds-reply-4
bounds-reply-4 c = simp length-set (search rules)

pub bounds-reply-5 : goal.bounds-reply-5
bounds-reply-5 c = simp length-set (search rules)

pub bounds-reply-6 : goal.bounds-reply-6
bounds-reply-6 c = simp length-set (search rules)

pub shape_of-reply : goal.shape_of-reply
shape_of-reply c = simp length-set (search rules)

pub returns : goal.returns
returns c = search (id_seven, rules)
