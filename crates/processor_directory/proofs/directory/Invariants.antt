-- The records from the next on, stored over the array, give what all n give.
use Rattle.std.proofs.Common.{◌≡◌}
use Rattle.std.proofs.Math.ListN.{take, drop}
use Rattle.processor_table.specs.SurveySteps.{folded}
use Rattle.processor_directory.specs.Listing.{begin_of, store_of}
use Rattle.processor_directory.proofs.directory.Given as goal

abbrev pub invariant-loop-r : goal.invariant-loop-r
invariant-loop-r l = record {
  first : l.records ≡ take l.n l.table;
  so_far : folded (store_of l.layout) (drop l.r-index l.records) l.d ≡ folded (store_of l.layout) l.records (begin_of l.layout l.fn.s);
}
