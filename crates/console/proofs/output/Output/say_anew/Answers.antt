use Rattle.std.proofs.Common.{rules}
use Rattle.console.proofs.output.Saying.{said_alone}
use Rattle.console.proofs.output.Output.say_anew.Goals as goal

pub returns-then-bytes-le65536 : goal.returns-then-bytes-le65536
returns-then-bytes-le65536 g c = said_alone _ _ _ c.requires (search rules) c.flush.ensures.1 c.flush.ensures.2 c.put_all-self.ensures
