-- An exported call is a call of `Slc::pccc` with its answer in numbers, so the rule holds of it.
use Rattle.std.specs.Prelude.{Result, Ok, Err}
use Prim.Native.Nat.{ℕ}
use mathlib.Core.Path.{◌≡◌, refl, sym, ap, ap₂, subst, ◌∙◌}
use mathlib.Core.List.{List, [], ◌∷◌, map}
use Rattle.base.specs.declared.refusal.Refusal.{Refusal}
use Rattle.base.specs.Refusals.{number_of}
use Rattle.processor_spec.specs.declared.Done.{Done}
use Rattle.processor_spec.specs.declared.Slc.{Slc}
use Rattle.processor_spec.specs.Pccc.{Left, left, heard, pccc_of, Says}
use Rattle.processor_spec.specs.Step.{Call}
use Rattle.theorem_closed_files.specs.Calls.{Processor, state, Calls}
use Rattle.theorem_closed_files.specs.Calls as calls
use Rattle.theorem_closed_files.specs.Closed.{Isolated}
use Rattle.theorem_closed_files.proofs.Calls.{closed_file_rule_of_calls}
use Rattle.link_processor.specs.declared.SlcDone.{SlcDone}
use Rattle.link_processor.specs.ProcessorRecords.{answered_to, done_of}
use Rattle.theorem_exported_closed_files.specs.Exported.{Told, told_by, Exports, no_call, one_call, ClosedFileRuleOfExports}

-- what is heard of a call, in numbers
in_numbers : Result ℕ Refusal × List ℕ → Told
in_numbers (Err e, bs) = (number_of e, (0, bs))
in_numbers (Ok k, bs) = (0, (k, bs))

told_heard : (d : Done) (reply : List ℕ) → told_by (done_of d) reply ≡ in_numbers (d.answered, heard d.answered reply)
unfolding done_of heard in_numbers
told_heard d reply = go d.answered
  where
    go : (a : Result ℕ Refusal) → told_by (answered_to d.slc a) reply ≡ in_numbers (a, heard a reply)
    go (Err e) = refl
    go (Ok k) = refl

slc_of_lem : (d : Done) → (done_of d).slc ≡ d.slc
unfolding done_of
slc_of_lem d = go d.answered
  where
    go : (a : Result ℕ Refusal) → (answered_to d.slc a).slc ≡ d.slc
    go (Err e) = refl
    go (Ok k) = refl

-- the calls that stand behind the exported ones
record Behind (p : Processor) (cs : List Call) (hs : List Told) (q : Processor) : Type 0 where
  answers : List (Result ℕ Refusal × List ℕ)
  calls : Calls p cs answers q
  told : hs ≡ map in_numbers answers

behind : {p q : Processor} {cs : List Call} {hs : List Told} → Exports p cs hs q → Behind p cs hs q
behind no_call = record { answers = []; calls = calls.no_call; told = refl }
behind (one_call {p = p} {q = q} {c = c} {cs = cs} {hs = hs} {r = r} {memory = memory} {reply = reply} says more) =
    let l : Left Done = pccc_of p.slc p.table p.memory p.log c.command c.memory in
    let m : memory ≡ l.memory = ap (λ (z : Left SlcDone). z.memory) says in
    let e : reply ≡ l.reply = ap (λ (z : Left SlcDone). z.reply) says in
    let d : r ≡ done_of l.done = ap (λ (z : Left SlcDone). z.done) says in
    let said : Says p.slc p.table p.memory p.log c.command c.memory l.done memory reply = ap₂ (λ (x y : List ℕ). left l.done x y) m e in
    let s : r.slc ≡ l.done.slc = ap (λ (z : SlcDone). z.slc) d ∙ slc_of_lem l.done in
    let b : Behind (record { slc = l.done.slc; table = p.table; memory = memory; log = p.log }) cs hs q =
    subst (λ (z : Slc). Behind (record { slc = z; table = p.table; memory = memory; log = p.log }) cs hs q) s (behind more) in
    record {
      answers = (l.done.answered, heard l.done.answered reply) ∷ b.answers;
      calls = calls.one_call said b.calls;
      told = ap₂ ◌∷◌ (ap (λ (z : SlcDone). told_by z reply) d ∙ told_heard l.done reply) b.told;
    }

-- Demand 3, of the exported call.
pub closed_file_rule_of_exports : ClosedFileRuleOfExports
closed_file_rule_of_exports closed a b x y cs ds hs gs ha hb ag same av p q =
    let f : Behind a cs hs x = behind p in
    let g : Behind b ds gs y = behind q in
    let r : (f.answers ≡ g.answers) × Isolated closed (state a) (state b) (state x) (state y) =
    closed_file_rule_of_calls closed a b x y cs ds f.answers g.answers ha hb ag same av f.calls g.calls in
    (f.told ∙ ap (map in_numbers) r.0 ∙ sym g.told, r.1)
