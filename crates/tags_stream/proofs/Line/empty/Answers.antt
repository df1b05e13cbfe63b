use Rattle.tags_stream.proofs.Onward.{keeping_none}
use Rattle.tags_stream.proofs.Line.empty.Goals as goal

pub returns : goal.returns
returns c = keeping_none
