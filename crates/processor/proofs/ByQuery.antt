-- The call by its query (`Choosing.antt`): that its parts fit together is `right` of processor_refinement.
use Rattle.processor_spec.specs.Pccc.{pccc_of}
use Rattle.processor_query.specs.Query.{directory_wanted, query_of}
use Rattle.processor_directory.specs.Listing.{directory_of}
use Rattle.processor_refinement.specs.CallBySurvey.{respond_of, show_of}
use Rattle.processor_refinement.proofs.Refines.{right}
use Rattle.processor.proofs.Choosing.{WantedDef, Fits}
use Rattle.processor.proofs.DirectoryFills.{directory_fills}

abbrev pub wanted : WantedDef
wanted q = directory_wanted q.wants

pub fits : Fits query_of wanted directory_of show_of respond_of pccc_of
fits slc t m l c p = right directory_of directory_fills slc t m l c p
