use mathlib.Core.Path.{refl}
use Rattle.processor_spec.specs.Pccc.{pccc_of}
use Rattle.processor_query.specs.Query.{query_of}
use Rattle.processor_directory.specs.Listing.{directory_of}
use Rattle.processor_refinement.specs.CallBySurvey.{respond_of, show_of}
use Rattle.processor.proofs.Choosing.{shows, answers}
use Rattle.processor.proofs.ByQuery.{wanted, fits}
use Rattle.processor.proofs.pccc.Goals as goal

pub returns-in-Some : goal.returns-in-Some
returns-in-Some c =
    shows query_of wanted directory_of show_of respond_of pccc_of fits _ _ _ _ _ _ _ c.asked-q.ensures _ c.survey-s.ensures _ c.directory.ensures _ _ _ refl c.in-Some.is c.show.ensures

pub returns-in-None : goal.returns-in-None
returns-in-None c = answers query_of wanted directory_of show_of respond_of pccc_of fits _ _ _ _ _ _ _ c.asked-q.ensures _ c.survey-s.ensures _ c.directory.ensures _ c.in-None.is c.respond.ensures
