use Rattle.processor_show_directory.proofs.DirectoryBytes.{list_bytes, list_other, list_size, size_low, size_high}
use Rattle.processor_refinement.proofs.Replying.{told}
use borrow.Author.Rules.{rules}
use Rattle.processor_show_directory.proofs.list.Goals as goal

pub returns-then-q-l : goal.returns-then-q-l
returns-then-q-l c = search (list_other, told, rules)

pub tell_size-requires : goal.tell_size-requires
tell_size-requires c = record { command_value = search rules; le_size = (search (size_low, rules), search (size_high, rules)); in_bounds = search rules }

pub returns-then-size_asked : goal.returns-then-size_asked
returns-then-size_asked c = search (list_size, rules)

pub returns : goal.returns
returns c = search (list_bytes, rules)
