use Rattle.std.proofs.Common.{rules}
use Rattle.console.proofs.answers.TwoPieces.{two_laid, dash, digits}
use Rattle.console.proofs.answers.laid.Text.byte_string.Goals as goal

pub returns-then-is_empty : goal.returns-then-is_empty
returns-then-is_empty c = two_laid c.plain.ensures (dash _ (search rules) c.plain-then-is_empty.ensures)

pub returns-else-is_empty : goal.returns-else-is_empty
returns-else-is_empty c = two_laid c.plain.ensures (digits _ (search rules) c.hex.ensures)
