use Rattle.processor_show_directory.proofs.DirectoryBytes.{eight_length, eight_small, size_told}
use Rattle.processor_refinement.proofs.Replying.{told}
use borrow.Author.Rules.{rules}
use Rattle.processor_show_directory.proofs.tell_size.Goals as goal

pub slice_bounds-answer-end : goal.slice_bounds-answer-end
slice_bounds-answer-end c = search (eight_length, rules)

pub returns : goal.returns
returns c = search (size_told, told, eight_small, rules)
