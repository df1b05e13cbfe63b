use Rattle.std.proofs.Common.{◌≡◌, ◌-◌, ◌+◌, ap, arith}
use Rattle.std.proofs.Math.ListN.{drop}
use Rattle.processor_soundness.proofs.DatalogRoom.{well_kept, kept_many, room_fits, log_goes, log_stops, log_ends}
use borrow.Author.Rules.{rules}
use Rattle.processor_soundness.proofs.good_log.Goals as goal

pub returns-then-left-gt64 : goal.returns-then-left-gt64
returns-then-left-gt64 c = search (kept_many, rules)

pub loop-i-init : goal.loop-i-init
loop-i-init c =
    let e : c.args.left - 0 ≡ c.args.left = omega arith in
    ap (λ n. well_kept n (drop c.args.at c.args.log.now)) e

pub returns-in_default : goal.returns-in_default
returns-in_default c =
    log_stops c.args.log.now c.args.at c.args.left c.loop-i.place (c.args.left - c.loop-i._i) c.loop-i.invariant (omega arith) c.in_default.ensures (omega arith)

pub overflow_add-place : goal.overflow_add-place
overflow_add-place c = omega (arith, room_fits c.args.log.now c.loop-i.place c.in-Some.ensures)

pub loop-i-preserved : goal.loop-i-preserved
loop-i-preserved c =
    log_goes c.args.log.now c.args.at c.args.left c.loop-i.place (c.args.left - c.loop-i._i) c.loop-i.invariant (c.args.left - (c.loop-i._i + 1)) c.in-Some.ensures (omega arith)

pub returns : goal.returns
returns c =
    log_ends c.args.log.now c.args.at c.args.left c.loop-i.place (c.args.left - c.loop-i._i) c.loop-i.invariant (omega arith) (omega arith)
