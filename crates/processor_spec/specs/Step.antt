-- What a command answers and changes, and a list of commands (document 01, "Command" and "What the processor does").
use Rattle.std.specs.Prelude.{ℕ, cond, List, [], ◌∷◌, leb, length, take, drop}
use Rattle.base.specs.declared.refusal.Refusal.{Refusal}
use Rattle.base.specs.declared.refusal.Refusal.TheVariants.{Unsound, ShortReplyMemory, MalformedCommand}
use Rattle.base.specs.Put.{put}
use Rattle.processor_spec.specs.Ask.{Ask, fail, tell, pop, read, write, ask}
use Rattle.processor_spec.specs.Frame.{well_formed, cmd, function, framed}
use Rattle.processor_spec.specs.Masked.{masked_at}
use Rattle.processor_spec.specs.State.{State, sound}

-- a refusal, or the bytes of a reply
pub data Answer : Type 0 where
  refused : Refusal → Answer
  replied : List ℕ → Answer

--     keeps      nothing changes
--     takes      the oldest entry leaves the datalog
--     lays       these bytes stand in the data memory from a place on
pub data Effect : Type 0 where
  keeps : Effect
  takes : Effect
  lays : (at : ℕ) → List ℕ → Effect

pub record Step : Type 0 where
  pub answer : Answer
  pub effect : Effect

-- the state that a command leaves
unfoldable pub after : State → Effect → State
after s keeps = s
after s takes = record { records = s.records; memory = s.memory; type_text = s.type_text; datalog = drop 1 s.datalog }
after s (lays at bs) = record { records = s.records; memory = put s.memory at bs; type_text = s.type_text; datalog = s.datalog }

-- "the oldest datalog entry, whole, and it leaves the queue; none left: 10"
unfoldable pub popped : List ℕ → List (List ℕ) → Step
popped c [] = record { answer = replied (framed c 0x10 []); effect = keeps }
popped c (e ∷ es) = record { answer = replied (framed c 0 e); effect = takes }

-- what a command that was asked does: a status that isn't 0 changes nothing, "an accepted write sets each word ..", a read and an answer change nothing
unfoldable pub perform : State → List ℕ → Ask → Step
perform s c (fail n x) = record { answer = replied (framed c n x); effect = keeps }
perform s c (tell bs) = record { answer = replied (framed c 0 bs); effect = keeps }
perform s c pop = popped c s.datalog
perform s c (read at size) = record { answer = replied (framed c 0 (take size (drop at s.memory))); effect = keeps }
perform s c (write at mask values) = record { answer = replied (framed c 0 []); effect = lays at (masked_at s.memory at mask values) }

-- what a well-formed command does
unfoldable pub obey : State → List ℕ → Step
obey s c = perform s c (ask s.records s.type_text (cmd c) (function c))

unfoldable pub refuse : Refusal → Step
refuse e = record { answer = refused e; effect = keeps }

-- "Is the state sound? no: 16. Has the reply memory 514 bytes? no: 17. Is the input not empty, its first byte not 0, and its length at least
-- that byte plus 4? no: 18"; `room` is the length of the reply memory
unfoldable pub step : State → List ℕ → ℕ → Step
step s c room =
    cond (sound s)
    (cond (leb 514 room)
    (cond (well_formed c) (obey s c) (refuse MalformedCommand))
    (refuse ShortReplyMemory))
    (refuse Unsound)

-- a command, and the reply memory that it is lent
pub record Call : Type 0 where
  pub command : List ℕ
  pub memory : List ℕ

unfoldable pub step_of : State → Call → Step
step_of s c = step s c.command (length c.memory)

unfoldable pub next : State → Call → State
next s c = after s (step_of s c).effect

pub record Ran : Type 0 where
  pub answers : List Answer
  pub last : State

-- each command meets what the last one left
unfoldable pub run : State → List Call → Ran
run s [] = record { answers = []; last = s }
run s (c ∷ cs) = record { answers = (step_of s c).answer ∷ (run (next s c) cs).answers; last = (run (next s c) cs).last }
