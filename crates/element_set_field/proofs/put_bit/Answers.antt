use mathlib.Core.Path.{◌≡◌, ◌∙◌}
use mathlib.Core.Bool.{cond}
use Rattle.element_set_field.proofs.SetField.{bit_stored}
use Rattle.element_set_field.proofs.put_bit.Goals as goal
use Rattle.element_set_field.proofs.put_bit.Goals.{then-clear, else-clear}

pub returns : goal.returns
returns c =
    let v : c.if-clear.mixed ≡ cond c.args.clear 0 c.bit_mask-mask.result = elim c.if-clear.branch [ then-clear w ↦ rw w.if-clear.true w.mixed-is | else-clear w ↦ rw w.if-clear.false w.mixed-is ] in
    bit_stored c.args.b c.args.clear _ _ _ _ (rw c.from.ensures at c.bit_mask-mask.ensures) c.word_at-old.ensures v (c.from-2.ensures ∙ c.mixed-word.ensures) c.requires c.put_number.ensures
