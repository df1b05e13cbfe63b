use Rattle.processor_frame.proofs.Frames.{no_bound, no_reply, reply_bound, reply_short, reply_cut, reply_whole, long_enough}
use borrow.Author.Rules.{rules}
use Rattle.processor_frame.proofs.reply_to.Goals as goal

pub returns-then-not-well_formed : goal.returns-then-not-well_formed
returns-then-not-well_formed c = record {
  puts = search (no_reply, rules);
  bytes_len_bound = search (no_bound, rules);
}

pub returns-then-reply-n : goal.returns-then-reply-n
returns-then-reply-n c = record {
  puts = search (reply_short, rules);
  bytes_len_bound = search (reply_bound, rules);
}

pub returns-then-reply-n-2 : goal.returns-then-reply-n-2
returns-then-reply-n-2 c = record {
  puts = search (reply_cut, rules);
  bytes_len_bound = search (reply_bound, rules);
}

pub frame-a-requires : goal.frame-a-requires
frame-a-requires c = record {
  n_value = search rules;
  n_in_bounds = search (long_enough, rules);
  n_in_bounds_2 = search rules;
}

pub returns : goal.returns
returns c = record {
  puts = search (reply_whole, rules);
  bytes_len_bound = search (reply_bound, rules);
}
