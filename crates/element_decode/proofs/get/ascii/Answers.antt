use Rattle.element_decode.proofs.DecodeAnswers.{first_two}
use Rattle.element_decode.proofs.get.ascii.Goals as goal

pub returns : goal.returns
returns c = rw (first_two c.args.element.now c.requires) at c.put_text.ensures
