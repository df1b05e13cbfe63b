use Rattle.processor_build.proofs.Finishing.{cleared}
use Rattle.processor_build.proofs.clear.Goals as goal

pub returns : goal.returns
returns c = cleared _ _ _ c.min-n.ensures _ (c.fill.ensures.after (λ y e. e))
