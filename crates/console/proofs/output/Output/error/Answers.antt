use Rattle.std.proofs.Common.{rules}
use Rattle.console.proofs.output.Saying.{said_error}
use Rattle.console.proofs.output.Output.error.Goals as goal

pub returns : goal.returns
returns g c = said_error (search rules) (search rules) _ c.plain.ensures c.plain-2.ensures c.plain-3.ensures
