use mathlib.Core.Path.{◌≡◌, refl, ap, ◌∙◌}
use mathlib.Core.List.{List}
use native.Mathlib.Omega.{arith}
use Rattle.processor_directory.specs.StoredRows.{zeros, marked_at, marked, blank_of, row_at}
use Rattle.processor_directory.proofs.Storing.{marked_next}
use Rattle.processor_directory.proofs.rows.blank.Goals as goal

pub loop-k-init : goal.loop-k-init
unfolding marked zeros
loop-k-init c = refl

pub loop-k-preserved : goal.loop-k-preserved
loop-k-preserved c =
    c.mark.ensures
    ∙ ap (marked_at c.loop-k.d) c.row_at.ensures
    ∙ ap (λ (d : List _). marked_at d (row_at c.args.first c.args.row c.loop-k.k)) c.loop-k.invariant
    ∙ marked_next c.args.first c.args.row zeros c.loop-k.k

pub returns : goal.returns
unfolding blank_of
returns c =
    let e : c.loop-k.k ≡ c.args.rows = omega arith in
    c.loop-k.invariant ∙ ap (marked c.args.first c.args.row zeros) e
