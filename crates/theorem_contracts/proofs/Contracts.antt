-- The contract that the toolchain makes of the text of an `ensures` is the record that a theorem is proved of, with the parameters in their places: of `pccc` demand 3
-- (theorem_closed_files), of `read_request` A8 (theorem_one_request).
use mathlib.Core.Path.{◌≡◌, refl}
use seplogic.Ra.Ura.{Ura}
use base.Logic.{SProp}
use prog.Memory.{Memory}
use prog.Routine.{Routine}
use types.Logic.{Logic}
use contract.Lifetimes.{Lfts}
use contract.Monad.{Fun, fact}
use denote.Triple.Clauses.{AtExit}
use denote.Triple.Entry.{Args, Res}
use Rattle.processor.specs.contracts.pccc as pccc
use Rattle.processor_spec.specs.Pccc.{Says}
use Rattle.request.specs.contracts.read_request as read-request
use Rattle.request_spec.specs.Request.{Builds, reading}

module _ {M : Type 1} {𝓤 : Ura M} (𝓛 : Logic 𝓤) (mem : Memory → SProp 𝓤) (run : Routine → Fun 𝓤) where
  pub pccc_says : (κs : Lfts 5) (a : Args pccc.signature κs) (r : Res pccc.signature κs) (e : AtExit pccc.ended κs)
      → (pccc.clauses 𝓛 mem run κs a).ensures tt r e
      ≡ fact 𝓤 (Says a.0 a.1.0.now a.1.1.0.now a.1.1.1.0.now a.1.1.1.1.0.now a.1.1.1.1.1.0.now r e.1.1.0.now e.1.1.1.1.1.0.now)
  pccc_says κs a r e = refl

  pub read_request_builds : (κs : Lfts 2) (a : Args read-request.signature κs) (r : Res read-request.signature κs) (e : AtExit read-request.ended κs)
      → (read-request.clauses 𝓛 mem run κs a).ensures tt r e
      ≡ fact 𝓤 (Builds (reading a.0.now a.1.0 a.1.1.0 a.1.1.1.0 a.1.1.1.1.0.now) a.1.1.1.1.0.now r e.1.1.1.1.0.now)
  read_request_builds κs a r e = refl
