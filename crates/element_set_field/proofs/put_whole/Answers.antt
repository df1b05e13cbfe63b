use mathlib.Core.Path.{ap, ◌∙◌}
use Rattle.std.specs.Result.{result_ok}
use Rattle.element_set_field.proofs.SetField.{whole_in}
use native.Mathlib.Omega.{arith}
use Rattle.element_set_field.proofs.put_whole.Goals as goal

pub returns : goal.returns
returns c = whole_in _ _ _ _ _ c.args.n _ _ c.ranges.n c.bits_of.ensures (omega arith) (omega arith) _ (c.ok_or.ensures.ok_part ∙ ap result_ok c.in_ok-bits.was) c.put_number.ensures
