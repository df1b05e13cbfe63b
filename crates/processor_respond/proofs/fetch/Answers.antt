use Rattle.std.proofs.Common.{◌<◌, ◌^◌}
use Rattle.processor_locate.proofs.Locating.{part_length}
use Rattle.processor_respond.proofs.Access.{fetched, fetched_bad}
use Rattle.processor_refinement.proofs.Replying.{told}
use borrow.Author.Rules.{rules}
use Rattle.processor_respond.proofs.fetch.Goals as goal

pub returns-in_default : goal.returns-in_default
returns-in_default c = search (fetched_bad, told, rules)

pub returns : goal.returns
returns c =
    let small : c.from.result < 2 ^ 8 = search rules in
    let told_this = told c.answer.ensures c.requires.command_value (part_length c.args.memory.now _ c.in-Some.at _ c.part.ensures small) c.requires.in_bounds in
    fetched _ _ _ _ _ _ _ _ _ c.locate.ensures _ _ _ c.in-Some.is c.from.ensures c.part.ensures told_this
