use Rattle.std.proofs.Common.{rules}
use Rattle.console.proofs.output.Saying.{said_bytes}
use Rattle.console.proofs.output.Output.ok_bytes.Goals as goal

pub returns : goal.returns
returns g c = said_bytes (search rules) (search rules) _ c.plain.ensures c.byte_string.ensures c.plain-2.ensures
