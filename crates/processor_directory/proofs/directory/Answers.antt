use Rattle.std.proofs.Common.{◌∙◌, ◌+◌, sym, ap, arith, List}
use Rattle.std.proofs.Math.ListN.{take, drop}
use Rattle.processor_spec.specs.declared.FileRecord.{FileRecord}
use Rattle.processor_table.specs.SurveySteps.{folded}
use Rattle.processor_table.proofs.SurveyRight.{first_rows, sees, at_end_lem}
use Rattle.processor_directory.specs.Listing.{begin_of, store_of, directory_of}
use Rattle.processor_directory.proofs.directory.Goals as goal

pub loop-r-init : goal.loop-r-init
loop-r-init c = record { first = first_rows _ _ c.min.ensures; so_far = ap (folded (store_of c.args.layout) (take c.min.result c.args.table.now)) c.blank-d.ensures }

pub loop-r-preserved : goal.loop-r-preserved
loop-r-preserved c = record {
  first = c.loop-r.invariant.first;
  so_far =
      ap (folded (store_of c.args.layout) (drop (c.loop-r.r-index + 1) (take c.min.result c.args.table.now))) c.store_row.ensures
      ∙ sees (store_of c.args.layout) (take c.min.result c.args.table.now) c.loop-r.r-index c.loop-r.d (omega arith)
      ∙ c.loop-r.invariant.so_far;
}

pub returns : goal.returns
unfolding directory_of
returns c =
    sym (at_end_lem (store_of c.args.layout) (take c.min.result c.args.table.now) c.loop-r.r-index c.loop-r.d (omega arith))
    ∙ c.loop-r.invariant.so_far
    ∙ ap (λ (rs : List FileRecord). folded (store_of c.args.layout) rs (begin_of c.args.layout c.args.s)) c.loop-r.invariant.first
