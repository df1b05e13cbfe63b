use Rattle.processor_refinement.proofs.Questions.{log_good, room_there, well_there}
use Rattle.processor_respond.proofs.Responding.{refused_by_lem, responded}
use borrow.Author.Rules.{rules}
use Rattle.processor_respond.proofs.respond.Goals as goal

pub obey-requires : goal.obey-requires
obey-requires c = record { command_value = search (well_there, rules); log_value = search (log_good, rules); in_bounds = search (room_there, rules) }

pub returns-in-Err : goal.returns-in-Err
returns-in-Err c = search (refused_by_lem, rules)

pub returns : goal.returns
returns c = search (responded, rules)
