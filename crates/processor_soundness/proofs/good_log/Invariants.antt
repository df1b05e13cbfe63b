use Rattle.std.proofs.Common.{◌≡◌, ◌-◌}
use Rattle.std.proofs.Math.ListN.{drop}
use Rattle.processor_soundness.proofs.DatalogRoom.{well_kept}
use Rattle.processor_soundness.proofs.good_log.Given as goal

abbrev pub invariant-loop-i : goal.invariant-loop-i
invariant-loop-i l = well_kept (l.left - l._i) (drop l.place l.log) ≡ well_kept l.left (drop l.at l.log)
