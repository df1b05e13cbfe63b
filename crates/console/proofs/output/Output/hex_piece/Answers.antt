use borrow.Author.Rules.{rules}
use Rattle.console.proofs.output.Saying.{laid_fits, laid_counts, laid_said, hex_small}
use Rattle.console.proofs.output.Output.hex_piece.Goals as goal

pub slice_bounds-digits-end : goal.slice_bounds-digits-end
slice_bounds-digits-end g c = search (laid_fits, hex_small, rules)

pub slice_bounds-plain-end : goal.slice_bounds-plain-end
slice_bounds-plain-end g c = search (laid_counts, hex_small, rules)

pub returns : goal.returns
returns g c = search (laid_said, hex_small, rules)
