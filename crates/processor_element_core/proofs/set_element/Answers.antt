use Rattle.processor_element_core.proofs.ReadAndSet.{is_there, not_there, set_unsound, set_none, set_there}
use Rattle.std.proofs.lemmas.Result.{err_from_is_err_and}
use borrow.Author.Rules.{rules}
use Rattle.processor_element_core.proofs.set_element.Goals as goal

pub returns-then-not-sound : goal.returns-then-not-sound
returns-then-not-sound c = search (set_unsound, rules)

pub returns-in_err-at : goal.returns-in_err-at
returns-in_err-at c =
    let p = err_from_is_err_and c.from_residual.result c.from_residual.ensures.1 in
    let n = not_there _ _ _ c.ok_or.ensures.value c.in_err-at.was in
    rw (p.1, p.2, n.1) (search (set_none, n.0, rules))

pub returns : goal.returns
returns c = let here = is_there _ _ _ c.ok_or.ensures.value c.in_ok-at.was in search (set_there, here, rules)
