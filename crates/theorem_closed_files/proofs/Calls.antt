-- Calls that meet the contract follow `run`, so the rule holds of them.
use Rattle.std.specs.Prelude.{Result, Ok, Err}
use Prim.Native.Nat.{ℕ, ◌+◌}
use mathlib.Core.Path.{◌≡◌, refl, sym, ap, ap₂, subst, subst₂, ◌∙◌}
use mathlib.Core.List.{List, [], ◌∷◌, map}
use lib.ListN.{length, drop}
use lib.Seq.{take_at}
use Rattle.base.specs.declared.refusal.Refusal.{Refusal}
use Rattle.base.specs.Put.{put}
use Rattle.processor_spec.specs.declared.Done.{Done}
use Rattle.processor_spec.specs.Pccc.{Left, answered_of, reply_left, heard, pccc_of, Says}
use Rattle.processor_spec.specs.Plain.{state_of}
use Rattle.processor_spec.specs.State.{State}
use Rattle.processor_spec.specs.Step.{Answer, refused, replied, Step, step, Call, step_of, next, run}
use Rattle.processor_spec.proofs.Plain.{state_left}
use Rattle.theorem_closed_files.specs.Closed.{Isolated}
use Rattle.theorem_closed_files.specs.Calls.{Processor, state, Calls, no_call, one_call, ClosedFileRuleOfCalls}
use Rattle.theorem_closed_files.proofs.ClosedFiles.{closed_file_rule}

-- what the caller has of an answer
told : Answer → Result ℕ Refusal × List ℕ
told (refused n) = (Err n, [])
told (replied bs) = (Ok (length bs), bs)

heard_answer : (a : Answer) (m : List ℕ) → (answered_of a, heard (answered_of a) (reply_left a m)) ≡ told a
unfolding heard answered_of reply_left told put
heard_answer (refused n) m = refl
heard_answer (replied bs) m = ap (λ (l : List ℕ). (Ok (length bs), l)) (take_at bs (drop (0 + length bs) m) (length bs) refl)

module _ (p : Processor) (c : Call) (done : Done) (memory reply : List ℕ)
    (says : Says p.slc p.table p.memory p.log c.command c.memory done memory reply) where
  abbrev x : Step
  x = step (state_of p.slc p.table p.memory p.log) c.command (length c.memory)

  call_heard : (done.answered, heard done.answered reply) ≡ told (step_of (state p) c).answer
  unfolding pccc_of step_of state
  call_heard = ap (λ (l : Left Done). (l.done.answered, heard l.done.answered l.reply)) says ∙ heard_answer x.answer c.memory

  call_state : state_of done.slc p.table memory p.log ≡ next (state p) c
  unfolding pccc_of next step_of state
  call_state =
      ap (λ (l : Left Done). state_of l.done.slc p.table l.memory p.log) says
      ∙ state_left p.slc p.table p.memory p.log c.command (length c.memory) x.effect refl

follows : {p q : Processor} {cs : List Call} {hs : List (Result ℕ Refusal × List ℕ)} → Calls p cs hs q
    → (hs ≡ map told (run (state p) cs).answers) × (state q ≡ (run (state p) cs).last)
unfolding run
follows no_call = (refl, refl)
follows (one_call {p = p} {q = q} {c = c} {cs = cs} {hs = hs} {done = done} {memory = memory} {reply = reply} says more) =
    let e : state (record { slc = done.slc; table = p.table; memory = memory; log = p.log }) ≡ next (state p) c = unfold state in call_state p c done memory reply says in
    let f : (hs ≡ map told (run (next (state p) c) cs).answers) × (state q ≡ (run (next (state p) c) cs).last) =
    subst (λ (s : State). (hs ≡ map told (run s cs).answers) × (state q ≡ (run s cs).last)) e (follows more) in
    (ap₂ ◌∷◌ (call_heard p c done memory reply says) f.0, f.1)

-- Demand 3, of the calls.
pub closed_file_rule_of_calls : ClosedFileRuleOfCalls
closed_file_rule_of_calls closed a b x y cs ds hs gs ha hb ag same av p q =
    let r : ((run (state a) cs).answers ≡ (run (state b) ds).answers) × Isolated closed (state a) (state b) (run (state a) cs).last (run (state b) ds).last =
    closed_file_rule closed (state a) (state b) cs ds ha hb ag same av in
    let f : (hs ≡ map told (run (state a) cs).answers) × (state x ≡ (run (state a) cs).last) = follows p in
    let g : (gs ≡ map told (run (state b) ds).answers) × (state y ≡ (run (state b) ds).last) = follows q in
    (f.0 ∙ ap (map told) r.0 ∙ sym g.0, subst₂ (λ (s t : State). Isolated closed (state a) (state b) s t) (sym f.1) (sym g.1) r.1)
