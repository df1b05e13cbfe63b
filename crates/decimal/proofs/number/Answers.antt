use mathlib.Core.Path.{◌∙◌}
use native.Mathlib.Omega.{arith}
use Rattle.decimal.proofs.Decimals.{number_done}
use Rattle.decimal.proofs.number.Goals as goal

pub returns : goal.returns
returns c = number_done c.args.s.now _ c.loop-c.c-index (omega arith) c.loop-c.invariant.0 ∙ c.loop-c.invariant.1
