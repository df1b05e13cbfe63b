use mathlib.Core.Path.{refl}
use Rattle.processor_spec.specs.Build.{no_slc}
use Rattle.processor_build.proofs.no_slc.Goals as goal

pub returns : goal.returns
returns c = unfold no_slc in refl
