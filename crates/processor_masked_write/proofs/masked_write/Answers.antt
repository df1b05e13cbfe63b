use Rattle.processor_masked_write.proofs.Turns.{written_past, part_length, part_fits, written_part}
use borrow.Author.Rules.{rules}
use Rattle.processor_masked_write.proofs.masked_write.Goals as goal

pub returns-then-memory-at : goal.returns-then-memory-at
returns-then-memory-at c = search (written_past, rules)

pub slice_bounds-write_all-end : goal.slice_bounds-write_all-end
slice_bounds-write_all-end c = search (part_length, rules)

pub write_all-requires : goal.write_all-requires
write_all-requires c = search (part_fits, rules)

pub returns : goal.returns
returns c = search (written_part, rules)
