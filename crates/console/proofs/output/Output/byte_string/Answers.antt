use Rattle.std.proofs.Common.{rules}
use Rattle.console.proofs.output.Saying.{string_none, string_some}
use Rattle.console.proofs.output.Output.byte_string.Goals as goal

pub returns-then-is_empty : goal.returns-then-is_empty
returns-then-is_empty g c = string_none _ (search rules) c.plain.ensures

pub returns-else-is_empty : goal.returns-else-is_empty
returns-else-is_empty g c = string_some _ (search rules) c.hex.ensures
