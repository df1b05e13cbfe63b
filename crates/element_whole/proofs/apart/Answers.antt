use Rattle.element_whole.proofs.Signed.{part_negative, part_positive}
use Rattle.element_whole.proofs.apart.Goals as goal

pub overflow_sub-result : goal.overflow_sub-result
overflow_sub-result c = (part_negative _ c.ranges.n c.if-n-lt0.true).fits

pub overflow_cast-result : goal.overflow_cast-result
overflow_cast-result c = (part_negative _ c.ranges.n c.if-n-lt0.true).cast

pub returns-then-n-lt0 : goal.returns-then-n-lt0
returns-then-n-lt0 c = (part_negative _ c.ranges.n c.if-n-lt0.true).same

pub overflow_cast-result-2 : goal.overflow_cast-result-2
overflow_cast-result-2 c = (part_positive _ c.ranges.n c.if-n-lt0.false).cast

pub returns : goal.returns
returns c = (part_positive _ c.ranges.n c.if-n-lt0.false).same
