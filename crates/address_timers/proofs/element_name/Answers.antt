use Rattle.address_timers.proofs.Timers.{cuts_hit}
use Rattle.address_timers.proofs.element_name.Goals as goal

pub returns-in-Some : goal.returns-in-Some
returns-in-Some c = cuts_hit _ _ _ c.loop-k.invariant c.loop-k-test.true _ c.in-Some.ensures
