use Rattle.std.proofs.Common.{rules, ◌∙◌}
use Rattle.console.proofs.output.Saying.{said_refused}
use Rattle.console.proofs.output.Output.refused.Goals as goal

pub returns : goal.returns
returns g c = said_refused (search rules) (search rules) _ (c.from.ensures ∙ c.number.ensures) c.plain.ensures c.number-2.ensures c.plain-2.ensures
