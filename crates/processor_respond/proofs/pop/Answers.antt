use Rattle.std.proofs.Common.{◌≡◌, ◌∙◌, take, drop}
use Rattle.base.specs.Numbers.{number}
use Rattle.processor_locate.proofs.Locating.{part_length}
use Rattle.processor_respond.proofs.OldestEntry.{begin_fits, end_fits, entry_small, popped_none, popped_there}
use Rattle.processor_refinement.proofs.Replying.{told}
use borrow.Author.Rules.{rules}
use Rattle.processor_respond.proofs.pop.Goals as goal

pub returns-then-slc-eq0 : goal.returns-then-slc-eq0
returns-then-slc-eq0 c = search (popped_none, told, rules)

pub overflow_add-rest-2 : goal.overflow_add-rest-2
overflow_add-rest-2 c = search (end_fits, rules)

pub overflow_add-at : goal.overflow_add-at
overflow_add-at c = search (begin_fits, rules)

pub returns : goal.returns
returns c =
    let n : c.from-n.result ≡ number (take 2 (drop c.args.slc.log_at c.args.log.now)) = c.from-n.ensures ∙ c.word_at.ensures in
    search (popped_there, told, part_length, entry_small, rules)
