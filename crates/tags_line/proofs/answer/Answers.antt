use Rattle.tags_line.proofs.Shown.{message_fits, message_counts, answer_refused, answer_message}
use borrow.Author.Rules.{rules}
use Rattle.tags_line.proofs.answer.Goals as goal

pub slice_bounds-message-end : goal.slice_bounds-message-end
slice_bounds-message-end c = search (message_fits, rules)

pub slice_bounds-put_message-end : goal.slice_bounds-put_message-end
slice_bounds-put_message-end c = search (message_counts, rules)

pub returns-in-Err : goal.returns-in-Err
returns-in-Err c = search (answer_refused, rules)

pub returns-in-Ok : goal.returns-in-Ok
returns-in-Ok c = search (answer_message, rules)
