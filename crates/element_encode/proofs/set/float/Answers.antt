use Rattle.element_encode.proofs.EncodeAnswers.{float_stored}
use Rattle.element_encode.proofs.set.float.Goals as goal

pub returns : goal.returns
returns c = float_stored c.args.bits (rw c.from.ensures at c.put_number.ensures) c.requires
