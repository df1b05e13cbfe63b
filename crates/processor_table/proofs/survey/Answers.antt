use Rattle.std.proofs.Common.{◌∙◌, ◌+◌, sym, ap, arith, List, length}
use Rattle.std.proofs.Math.ListN.{take, drop}
use Rattle.processor_spec.specs.declared.FileRecord.{FileRecord}
use Rattle.processor_table.specs.SurveySteps.{folded, begun_of, passed_of, concluded_of}
use Rattle.processor_table.proofs.SurveyRight.{first_rows, sees, at_end_lem, survey_right}
use Rattle.processor_table.proofs.survey.Goals as goal

pub loop-r-init : goal.loop-r-init
loop-r-init c = record { first = first_rows _ _ c.min.ensures; so_far = ap (folded passed_of (take c.min.result c.args.table.now)) c.begin-s.ensures }

pub loop-r-preserved : goal.loop-r-preserved
loop-r-preserved c = record {
  first = c.loop-r.invariant.first;
  so_far =
      ap (folded passed_of (drop (c.loop-r.r-index + 1) (take c.min.result c.args.table.now))) c.passed-s.ensures
      ∙ sees passed_of (take c.min.result c.args.table.now) c.loop-r.r-index c.loop-r.s (omega arith)
      ∙ c.loop-r.invariant.so_far;
}

pub returns : goal.returns
returns c =
    c.conclude.ensures
    ∙ ap concluded_of (sym (at_end_lem passed_of (take c.min.result c.args.table.now) c.loop-r.r-index c.loop-r.s (omega arith)) ∙ c.loop-r.invariant.so_far)
    ∙ ap (λ (rs : List FileRecord). concluded_of (folded passed_of rs (begun_of c.args.n (length c.args.table.now) c.args.number))) c.loop-r.invariant.first
    ∙ survey_right c.args.table.now c.args.n c.args.number
