-- What the calls of the processor answer, in the numbers of the C interface (slc_link.h).
use Rattle.std.specs.Prelude.{ℕ, ◌≡◌, List, Result, Ok, Err}
use Rattle.base.specs.Refusals.{number_of}
use Rattle.base.specs.declared.refusal.Refusal.{Refusal}
use Rattle.processor_spec.specs.declared.Built.{Built}
use Rattle.processor_spec.specs.declared.Done.{Done}
use Rattle.processor_spec.specs.declared.FileRecord.{FileRecord}
use Rattle.processor_spec.specs.declared.Slc.{Slc}
use Rattle.processor_spec.specs.Build.{Raised}
use Rattle.processor_spec.specs.Pccc.{Left, left, pccc_of}
use Rattle.link_processor.specs.declared.SlcBuilt.{SlcBuilt}
use Rattle.link_processor.specs.declared.SlcDone.{SlcDone}

-- "`refused` is 0, or the number of the question of document 01 that was answered with no; .. its other fields are 0"
abbrev pub answered_to : Slc → Result ℕ Refusal → SlcDone
answered_to slc (Err e) = record { slc = slc; refused = number_of e; length = 0 }
answered_to slc (Ok k) = record { slc = slc; refused = 0; length = k }

unfoldable pub done_of : Done → SlcDone
done_of d = answered_to d.slc d.answered

-- what a command leaves, its answer in numbers
abbrev pub numbered : Left Done → Left SlcDone
numbered x = left (done_of x.done) x.memory x.reply

-- What the exported call ensures: what `Slc::pccc` leaves, its answer in numbers.
abbrev pub SaysInNumbers : Slc → List FileRecord → List ℕ → List ℕ → List ℕ → List ℕ → SlcDone → List ℕ → List ℕ → Type 0
SaysInNumbers slc table memory log command reply r memory' reply' = left r memory' reply' ≡ numbered (pccc_of slc table memory log command reply)

-- what building answers
abbrev pub made_to : Slc → Result (Unit {0}) Refusal → SlcBuilt
made_to slc (Err e) = record { slc = slc; refused = number_of e }
made_to slc (Ok _) = record { slc = slc; refused = 0 }

unfoldable pub built_of : Built → SlcBuilt
built_of b = made_to b.slc b.made

-- What the exported call that builds ensures: the answer, and the table and the data memory as it leaves them.
pub record Raises (x : Raised) (r : SlcBuilt) (table' : List FileRecord) (memory' : List ℕ) : Type 0 where
  pub answer : r ≡ built_of x.built
  pub table : table' ≡ x.table
  pub memory : memory' ≡ x.memory
