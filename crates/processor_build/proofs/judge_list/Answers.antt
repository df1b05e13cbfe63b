use Rattle.processor_build.proofs.Judging.{judge_files, judge_text, judge_room, judge_log, judge_ready}
use Rattle.std.proofs.lemmas.Result.{err_from_is_err_and}
use borrow.Author.Rules.{rules}
use Rattle.processor_build.proofs.judge_list.Goals as goal

pub returns-in_err-refused : goal.returns-in_err-refused
returns-in_err-refused c =
    let p = err_from_is_err_and c.from_residual.result c.from_residual.ensures.1 in
    rw (p.1, p.2) (judge_files _ _ _ _ _ _ _ c.refused.ensures _ c.in_err-refused.was)

pub returns-then-not-good_text : goal.returns-then-not-good_text
returns-then-not-good_text c = search (judge_text, rules)

pub returns-then-not-fit : goal.returns-then-not-fit
returns-then-not-fit c = search (judge_room, c.in_ok-refused.was, rules)

pub returns-then-not-good_log : goal.returns-then-not-good_log
returns-then-not-good_log c = search (judge_log, rules)

pub returns : goal.returns
returns c = search (judge_ready, rules)
