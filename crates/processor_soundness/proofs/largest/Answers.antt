use Rattle.std.proofs.Common.{◌+◌, ap, ◌∙◌, arith}
use Rattle.std.proofs.Math.ListN.{drop}
use Rattle.processor_soundness.specs.Tests.{largest_from}
use Rattle.processor_soundness.proofs.TypeText.{largest_begins, largest_next, largest_last}
use Rattle.processor_soundness.proofs.largest.Goals as goal

pub loop-b-init : goal.loop-b-init
loop-b-init c = largest_begins _

pub loop-b-preserved : goal.loop-b-preserved
loop-b-preserved c =
    ap (λ n. largest_from n (drop (c.loop-b.b-index + 1) c.args.text)) c.max-most.ensures
    ∙ largest_next c.loop-b.most c.args.text c.loop-b.b-index (omega arith)
    ∙ c.loop-b.invariant

pub returns : goal.returns
returns c = largest_last c.loop-b.most c.args.text c.loop-b.b-index (omega arith) c.loop-b.invariant
