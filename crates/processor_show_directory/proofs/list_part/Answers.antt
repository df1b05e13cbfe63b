use Rattle.std.proofs.Common.{◌<◌, ◌^◌}
use Rattle.processor_show_directory.proofs.DirectoryBytes.{part_past, part_there}
use Rattle.processor_locate.proofs.Locating.{part_length}
use Rattle.processor_refinement.proofs.Replying.{told}
use borrow.Author.Rules.{rules}
use Rattle.processor_show_directory.proofs.list_part.Goals as goal

pub returns-then-n-from : goal.returns-then-n-from
returns-then-n-from c = search (part_past, told, rules)

pub returns : goal.returns
returns c =
    let small : c.from-size.result < 2 ^ 8 = search rules in
    let told_this = told c.answer.ensures c.requires.command_value (part_length c.args.d.now _ _ _ c.part.ensures small) c.requires.in_bounds in
    part_there _ _ _ _ _ _ _ _ _ _ c.from-from.ensures c.from-size.ensures _ c.if-n-from.false c.part.ensures told_this
