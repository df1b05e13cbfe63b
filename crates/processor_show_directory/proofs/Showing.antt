-- The call, where the directory is asked for.
use Rattle.std.specs.Prelude.{Result, Ok, Err}
use Prim.Native.Nat.{ℕ, ◌+◌, ◌*◌}
use mathlib.Core.Path.{◌≡◌}
use mathlib.Core.List.{List, []}
use lib.Dec.{leb, eqb}
use lib.ListN.{length}
use Rattle.base.specs.declared.refusal.Refusal.{Refusal}
use Rattle.processor_spec.specs.declared.Done.{Done}
use Rattle.processor_spec.specs.declared.Slc.{Slc}
use Rattle.processor_spec.specs.Pccc.{left, left_by}
use Rattle.processor_spec.specs.Refusals.{refusal_of}
use Rattle.processor_spec.specs.Step.{Step}
use Rattle.processor_spec.proofs.Tests.{cases}
use Rattle.processor_query.specs.declared.Layout.{Layout}
use Rattle.processor_query.specs.declared.Query.{Query}
use Rattle.processor_soundness.specs.Sound.{sound_by}
use Rattle.processor_table.specs.declared.Seen.{Seen}
use Rattle.processor_refinement.specs.CallBySurvey.{question_of, show_of}
use Rattle.processor_refinement.specs.StepsBySurvey.{Answers, tells, size_asked, directory_length, part_step, directory_step}
use Rattle.processor_refinement.proofs.Replying.{kept}
use Rattle.processor_refinement.proofs.Questions.{refuses, goes_on}

-- a command for the directory changes nothing
directory_left : (slc : Slc) (s : Seen) (q : Query) (l : Layout) (d m log c reply reply' : List ℕ) (r : Done) → Answers (directory_step s q l d c) slc [] reply r reply'
    → left r m reply' ≡ left_by (directory_step s q l d c) slc m log reply
unfolding directory_step part_step
directory_left slc s q l d m log c reply reply' r =
    let Same : Step → Type 0 = λ x. Answers x slc [] reply r reply' → left r m reply' ≡ left_by x slc m log reply in
    let told : (status : ℕ) (bs : List ℕ) → Same (tells c status bs) = λ status bs a. kept slc m log c reply reply' r status bs a in
    cases Same (eqb q.code l.code) _ _
    (λ _. cases Same (size_asked q l) _ _ (λ _. told 0 _) (λ _. cases Same (leb (2 * q.element + q.size) (directory_length s l)) _ _ (λ _. told 0 _) (λ _. told 0xF0 _)))
    (λ _. told 0xF0 _)

module _ (slc : Slc) (s : Seen) (q : Query) (l : Layout) (d m log c reply : List ℕ) (x : Result (Unit {0}) Refusal) (e : x ≡ refusal_of (question_of (sound_by slc s (length m) log) (length reply) c)) where
  pub unshown_by : (n : Refusal) → x ≡ Err n → left (record { slc = slc; answered = Err n }) m reply ≡ show_of slc s q l d m log c reply
  unfolding show_of
  unshown_by n h = refuses slc s m log c reply x e (directory_step s q l d c) n h

  pub shown : (r : Done) (reply' : List ℕ) → x ≡ Ok tt → Answers (directory_step s q l d c) slc [] reply r reply' → left r m reply' ≡ show_of slc s q l d m log c reply
  unfolding show_of
  shown r reply' z a = goes_on slc s m log c reply x e (directory_step s q l d c) (left r m reply') z (directory_left slc s q l d m log c reply reply' r a)
