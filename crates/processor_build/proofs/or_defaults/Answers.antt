use Rattle.processor_build.proofs.Judging.{no_files, some_files}
use Rattle.processor_build.proofs.or_defaults.Goals as goal

pub returns-then-is_empty : goal.returns-then-is_empty
returns-then-is_empty c = no_files _ _ c.is_empty.ensures c.if-is_empty.true

pub returns : goal.returns
returns c = some_files _ _ c.is_empty.ensures c.if-is_empty.false
