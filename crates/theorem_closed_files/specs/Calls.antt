-- Demand 3 of the calls themselves: of any two chains of calls that meet the contract of `Slc::pccc`.
use Rattle.std.specs.Prelude.{ℕ, ◌≡◌, Bool, true, List, [], ◌∷◌, Result}
use Rattle.base.specs.declared.refusal.Refusal.{Refusal}
use Rattle.processor_spec.specs.declared.Done.{Done}
use Rattle.processor_spec.specs.declared.FileRecord.{FileRecord}
use Rattle.processor_spec.specs.declared.Slc.{Slc}
use Rattle.processor_spec.specs.Pccc.{heard, Says}
use Rattle.processor_spec.specs.Plain.{state_of}
use Rattle.processor_spec.specs.State.{State, sound}
use Rattle.processor_spec.specs.Step.{Call}
use Rattle.theorem_closed_files.specs.Closed.{all_avoid, Agree, SameCalls, Isolated}

-- a processor as plain data, with its memories
pub record Processor : Type 0 where
  pub slc : Slc
  pub table : List FileRecord
  pub memory : List ℕ
  pub log : List ℕ

unfoldable pub state : Processor → State
state p = state_of p.slc p.table p.memory p.log

-- Calls of `Slc::pccc`, one for each command, "each command meeting what the last one left ..., with nothing else writing to either processor
-- meanwhile"; what the caller has of each: a refusal, or the length and the bytes of the reply; and the processor at the end.
pub data Calls : Processor → List Call → List (Result ℕ Refusal × List ℕ) → Processor → Type 0 where
  no_call : {p : Processor} → Calls p [] [] p
  one_call : {p q : Processor} {c : Call} {cs : List Call} {hs : List (Result ℕ Refusal × List ℕ)} {done : Done} {memory reply : List ℕ}
      → Says p.slc p.table p.memory p.log c.command c.memory done memory reply
      → Calls (record { slc = done.slc; table = p.table; memory = memory; log = p.log }) cs hs q
      → Calls p (c ∷ cs) ((done.answered, heard done.answered reply) ∷ hs) q

-- Demand 3.
abbrev pub ClosedFileRuleOfCalls : Type 0
ClosedFileRuleOfCalls =
    (closed : ℕ → Bool) (a b x y : Processor) (cs ds : List Call) (hs gs : List (Result ℕ Refusal × List ℕ))
    → sound (state a) ≡ true → sound (state b) ≡ true → Agree closed (state a) (state b)
    → SameCalls cs ds → all_avoid closed cs ≡ true
    → Calls a cs hs x → Calls b ds gs y
    → (hs ≡ gs) × Isolated closed (state a) (state b) (state x) (state y)
