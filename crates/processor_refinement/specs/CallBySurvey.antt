-- The call, by what the query and the survey tell. Each definition names the one of processor_spec that it refines.
use Rattle.std.specs.Prelude.{ℕ, Bool, cond, List, leb, length, Option, None, Some}
use Rattle.base.specs.declared.refusal.Refusal.{Refusal}
use Rattle.base.specs.declared.refusal.Refusal.TheVariants.{Unsound, ShortReplyMemory, MalformedCommand}
use Rattle.processor_spec.specs.declared.Done.{Done}
use Rattle.processor_spec.specs.declared.Slc.{Slc}
use Rattle.processor_spec.specs.Frame.{well_formed}
use Rattle.processor_spec.specs.Pccc.{Left, left_by}
use Rattle.processor_spec.specs.Step.{Step, refuse}
use Rattle.processor_query.specs.declared.Layout.{Layout}
use Rattle.processor_query.specs.declared.Query.{Query}
use Rattle.processor_soundness.specs.Sound.{sound_by}
use Rattle.processor_table.specs.declared.Seen.{Seen}
use Rattle.processor_refinement.specs.StepsBySurvey.{obey_step, directory_step}

-- the questions of Step.step in their order: the first that is answered with no, none where each is answered with yes
abbrev pub first_no : Bool → Bool → Bool → Option Refusal
first_no sound room well =
    cond sound
    (cond room
    (cond well None (Some MalformedCommand))
    (Some ShortReplyMemory))
    (Some Unsound)

-- the same, by whether the state is sound, as the survey tells, by the length of the reply memory and by the command
unfoldable pub question_of : Bool → ℕ → List ℕ → Option Refusal
question_of sound room c = first_no sound (leb 514 room) (well_formed c)

-- Step.step, by the answers to its questions: the step behind them, or a refusal
abbrev pub questioned : Option Refusal → Step → Step
questioned None x = x
questioned (Some e) x = refuse e

-- Pccc.pccc_of of a command that doesn't ask for the directory, by the survey and the query
unfoldable pub respond_of : Slc → Seen → Query → List ℕ → List ℕ → List ℕ → List ℕ → Left Done
respond_of slc s q memory log c reply =
    left_by (questioned (question_of (sound_by slc s (length memory) log) (length reply) c) (obey_step q.wants slc s q memory log c)) slc memory log reply

-- Pccc.pccc_of of one that does, by these, the layout and an array `d` that begins with Directory.directory
unfoldable pub show_of : Slc → Seen → Query → Layout → List ℕ → List ℕ → List ℕ → List ℕ → List ℕ → Left Done
show_of slc s q l d memory log c reply =
    left_by (questioned (question_of (sound_by slc s (length memory) log) (length reply) c) (directory_step s q l d c)) slc memory log reply
