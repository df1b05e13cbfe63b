use Rattle.processor_build.proofs.Finishing.{text_is}
use Rattle.processor_build.proofs.type_text.Goals as goal

pub returns : goal.returns
returns c = text_is _ _ c.min-n.ensures _ c.copy_from_slice.ensures.after
