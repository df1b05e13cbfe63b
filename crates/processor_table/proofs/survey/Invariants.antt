-- The records from the next on, folded over what is seen, give what all n give.
use Rattle.std.proofs.Common.{◌≡◌, length}
use Rattle.std.proofs.Math.ListN.{take, drop}
use Rattle.processor_table.specs.SurveySteps.{folded, begun_of, passed_of}
use Rattle.processor_table.proofs.survey.Given as goal

abbrev pub invariant-loop-r : goal.invariant-loop-r
invariant-loop-r l = record {
  first : l.rows ≡ take l.n l.table;
  so_far : folded passed_of (drop l.r-index l.rows) l.s ≡ folded passed_of l.rows (begun_of l.n (length l.table) l.number);
}
