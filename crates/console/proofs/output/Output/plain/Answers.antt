use Rattle.std.proofs.Common.{rules}
use Rattle.console.proofs.output.Saying.{said_room}
use Rattle.console.proofs.output.Output.plain.Goals.{then-at-gt65536, else-at-gt65536}
use Rattle.console.proofs.output.Output.plain.Goals as goal

pub returns-else-at-bytes : goal.returns-else-at-bytes
returns-else-at-bytes g c = elim c.if-at-gt65536.branch [ then-at-gt65536 w ↦ search rules | else-at-gt65536 w ↦ said_room _ _ _ (search rules) (search rules) c.put_all-self.ensures ]
