-- The contract that the toolchain makes of the text of an export's `ensures` is the record that a theorem is proved of, with the parameters in their places: of `slc_pccc`
-- demand 3 (theorem_exported_closed_files), of `slc_read_request` A8 (theorem_one_request).
use mathlib.Core.Path.{◌≡◌, refl}
use seplogic.Ra.Ura.{Ura}
use base.Logic.{SProp}
use prog.Memory.{Memory}
use prog.Routine.{Routine}
use types.Logic.{Logic}
use contract.Lifetimes.{Lfts}
use contract.Monad.{Fun, fact}
use denote.Triple.Clauses.{AtExit}
use denote.Triple.Entry.{Args, Res}
use Rattle.slc_link.specs.contracts.requests.slc_read_request as read-request
use Rattle.slc_link.specs.contracts.simulator.slc_pccc as pccc
use Rattle.link_processor.specs.ProcessorRecords.{SaysInNumbers}
use Rattle.link_requests.specs.Kinds.{reading_of}
use Rattle.link_requests.specs.RequestRecords.{Asks}
use Rattle.request_spec.specs.Request.{reading}

module _ {M : Type 1} {𝓤 : Ura M} (𝓛 : Logic 𝓤) (mem : Memory → SProp 𝓤) (run : Routine → Fun 𝓤) where
  pub slc_pccc_says : (κs : Lfts 5) (a : Args pccc.signature κs) (r : Res pccc.signature κs) (e : AtExit pccc.ended κs)
      → (pccc.clauses 𝓛 mem run κs a).ensures tt r e
      ≡ fact 𝓤 (SaysInNumbers a.0 a.1.0.now a.1.1.0.now a.1.1.1.0.now a.1.1.1.1.0.now a.1.1.1.1.1.0.now r e.1.1.0.now e.1.1.1.1.1.0.now)
  slc_pccc_says κs a r e = refl

  pub slc_read_request_asks : (κs : Lfts 2) (a : Args read-request.signature κs) (r : Res read-request.signature κs) (e : AtExit read-request.ended κs)
      → (read-request.clauses 𝓛 mem run κs a).ensures tt r e
      ≡ fact 𝓤 (Asks (reading a.0.now (reading_of a.1.0) a.1.1.0 a.1.1.1.0 a.1.1.1.1.0.now) a.1.1.1.1.0.now r e.1.1.1.1.0.now)
  slc_read_request_asks κs a r e = refl
