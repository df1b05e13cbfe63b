-- Replies, and what a call leaves.
use Rattle.std.specs.Prelude.{Ok}
use Prim.Native.Nat.{ℕ, ◌+◌, ◌≤◌, ◌<◌}
use mathlib.Core.Path.{◌≡◌, refl, ap, sym, subst, ◌∙◌}
use mathlib.Core.Bool.{Bool, true, false, cond}
use mathlib.Core.List.{List, []}
use native.Mathlib.Omega.{arith}
use borrow.Author.Tests.{leb-true, leb-false, le-leb}
use lib.Dec.{leb}
use lib.ListN.{length}
use Rattle.base.specs.Put.{Wrote, Puts}
use Rattle.base.proofs.Put.{put_none, puts_wrote, puts_kept}
use Rattle.processor_spec.specs.declared.Done.{Done}
use Rattle.processor_spec.specs.declared.Slc.{Slc}
use Rattle.processor_spec.specs.Frame.{well_formed, framed}
use Rattle.processor_spec.specs.Pccc.{answered_of, reply_left, memory_left, slc_left, left, left_by}
use Rattle.processor_spec.specs.Step.{Step, replied, keeps}
use Rattle.processor_frame.specs.Reply.{reply_to}
use Rattle.processor_refinement.specs.StepsBySurvey.{Answers, tells, roomed, tells_in, Told}

-- the memories that a call leaves, in one equation
pub answers_left : {x : Step} {slc : Slc} {log reply : List ℕ} {r : Done} {reply' : List ℕ} (m m' : List ℕ) → Answers x slc log reply r reply' → m' ≡ memory_left x.effect m
    → left r m' reply' ≡ left_by x slc m log reply
answers_left m m' a e = λ i. record { done = a.done i; memory = e i; reply = a.left i }

-- a reply that keeps the processor needs no datalog
pub kept : (slc : Slc) (m log c reply reply' : List ℕ) (r : Done) (status : ℕ) (bs : List ℕ) → Answers (tells c status bs) slc [] reply r reply'
    → left r m reply' ≡ left_by (tells c status bs) slc m log reply
unfolding slc_left memory_left
kept slc m log c reply reply' r status bs a = λ i. record { done = a.done i; memory = m; reply = a.left i }

-- the answers of `answer`
pub told_there : (slc : Slc) (c bs reply reply' : List ℕ) (status r : ℕ) → Puts reply 0 (reply_to c status bs) r reply' → length (reply_to c status bs) ≤ 259 + length bs
    → Told c status bs slc reply (record { slc = slc; answered = Ok r }) reply'
unfolding tells_in roomed slc_left answered_of reply_left
told_there slc c bs reply reply' status r p b = record { is = go (reply_to c status bs) p (leb (length (reply_to c status bs)) (length reply)) refl; small = b }
  where
    go : (x : List ℕ) → Puts reply 0 x r reply' → (t : Bool) → leb (length x) (length reply) ≡ t
        → Answers (record { answer = replied (cond t x []); effect = keeps }) slc [] reply (record { slc = slc; answered = Ok r }) reply'
    go x p true e =
        let h : length x ≤ length reply = leb-true (length x) (length reply) e in
        let v : Wrote reply 0 x r reply' = puts_wrote p (omega arith) in
        let n : r ≡ length x = omega (arith, v.end) in
        record { done = ap (λ (z : ℕ). record { slc = slc; answered = Ok z }) n; left = v.now }
    go x p false e =
        let h : length reply < length x = leb-false (length x) (length reply) e in
        let v : (r ≡ 0) × (reply' ≡ reply) = puts_kept p (omega arith) in
        record { done = ap (λ (z : ℕ). record { slc = slc; answered = Ok z }) v.0; left = v.1 ∙ sym (put_none reply 0) }

-- the reply is there where the command is well-formed and the reply memory has room for any
pub told : {slc : Slc} {c bs reply reply' : List ℕ} {status : ℕ} {r : Done} → Told c status bs slc reply r reply' → well_formed c ≡ true → length bs ≤ 255 → 514 ≤ length reply
    → Answers (tells c status bs) slc [] reply r reply'
unfolding tells_in roomed reply_to
told {slc} {c} {bs} {reply} {reply'} {status} {r} a w l k =
    let f : reply_to c status bs ≡ framed c status bs = rw w in
    let b : length (reply_to c status bs) ≤ length reply = omega (arith, a.small) in
    let g : cond (leb (length (reply_to c status bs)) (length reply)) (reply_to c status bs) [] ≡ framed c status bs = rw (le-leb (length (reply_to c status bs)) (length reply) b) f in
    subst (λ (x : List ℕ). Answers (record { answer = replied x; effect = keeps }) slc [] reply r reply') g a.is
