use Rattle.processor_build.proofs.Finishing.{slc_is}
use Rattle.processor_build.proofs.slc_with.Goals as goal

pub returns : goal.returns
returns c = slc_is _ _ _ _ c.type_text.ensures
