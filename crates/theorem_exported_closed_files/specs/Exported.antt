-- Demand 3 of the exported call: of any two chains of calls that meet the contract of `slc_pccc`.
use Rattle.std.specs.Prelude.{ℕ, ◌≡◌, Bool, true, List, [], ◌∷◌, take}
use Rattle.processor_spec.specs.State.{sound}
use Rattle.processor_spec.specs.Step.{Call}
use Rattle.theorem_closed_files.specs.Calls.{Processor, state}
use Rattle.theorem_closed_files.specs.Closed.{all_avoid, Agree, SameCalls, Isolated}
use Rattle.link_processor.specs.declared.SlcDone.{SlcDone}
use Rattle.link_processor.specs.ProcessorRecords.{SaysInNumbers}

-- what a caller has of a call: the number, the length, and the bytes of the reply
abbrev pub Told : Type 0
Told = ℕ × (ℕ × List ℕ)

abbrev pub told_by : SlcDone → List ℕ → Told
told_by r reply = (r.refused, (r.length, take r.length reply))

-- Calls of `slc_pccc`, one for each command, each with the processor and the data memory that the last one left; what the caller has of each;
-- and the processor at the end.
pub data Exports : Processor → List Call → List Told → Processor → Type 0 where
  no_call : {p : Processor} → Exports p [] [] p
  one_call : {p q : Processor} {c : Call} {cs : List Call} {hs : List Told} {r : SlcDone} {memory reply : List ℕ}
      → SaysInNumbers p.slc p.table p.memory p.log c.command c.memory r memory reply
      → Exports (record { slc = r.slc; table = p.table; memory = memory; log = p.log }) cs hs q
      → Exports p (c ∷ cs) (told_by r reply ∷ hs) q

-- Demand 3.
abbrev pub ClosedFileRuleOfExports : Type 0
ClosedFileRuleOfExports =
    (closed : ℕ → Bool) (a b x y : Processor) (cs ds : List Call) (hs gs : List Told)
    → sound (state a) ≡ true → sound (state b) ≡ true → Agree closed (state a) (state b)
    → SameCalls cs ds → all_avoid closed cs ≡ true
    → Exports a cs hs x → Exports b ds gs y
    → (hs ≡ gs) × Isolated closed (state a) (state b) (state x) (state y)
