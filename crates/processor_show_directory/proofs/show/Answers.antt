use Rattle.processor_refinement.proofs.Questions.{room_there, well_there}
use Rattle.processor_show_directory.proofs.Showing.{unshown_by, shown}
use borrow.Author.Rules.{rules}
use Rattle.processor_show_directory.proofs.show.Goals as goal

pub list-requires : goal.list-requires
list-requires c = record { command_value = search (well_there, rules); in_bounds = search (room_there, rules) }

pub returns-in-Err : goal.returns-in-Err
returns-in-Err c = search (unshown_by, rules)

pub returns : goal.returns
returns c = search (shown, rules)
