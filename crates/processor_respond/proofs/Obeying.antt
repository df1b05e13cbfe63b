-- What a command does, by what is wanted.
use Rattle.std.specs.Prelude.{Option, None, Some}
use Prim.Native.Nat.{ℕ}
use mathlib.Core.Path.{◌≡◌, refl, sym, subst, ◌∙◌}
use mathlib.Core.List.{List, [], ◌∷◌}
use lib.ListN.{drop}
use Rattle.processor_spec.specs.declared.Done.{Done}
use Rattle.processor_spec.specs.declared.Slc.{Slc}
use Rattle.processor_spec.specs.Pccc.{memory_left, slc_left, left, left_by}
use Rattle.processor_spec.specs.Plain.{entries}
use Rattle.processor_spec.specs.Step.{popped}
use Rattle.processor_query.specs.declared.Layout.{Layout}
use Rattle.processor_query.specs.declared.Query.{Query}
use Rattle.processor_query.specs.declared.Wants.{Wants}
use Rattle.processor_query.specs.declared.Wants.TheVariants as wants
use Rattle.processor_table.specs.declared.Seen.{Seen}
use Rattle.processor_refinement.specs.StepsBySurvey.{Answers, tells, tells_bad, status_step, pop_step, read_at, read_step, write_at, write_step, values_of, obey_step}
use Rattle.processor_locate.specs.Locate.{locate_by}
use Rattle.processor_refinement.proofs.Replying.{answers_left, kept}

-- ---- by what is wanted
module _ (slc : Slc) (s : Seen) (q : Query) (m log c reply reply' : List ℕ) (r : Done) where
  by_wants : (w : Wants) → q.wants ≡ w → left r m reply' ≡ left_by (obey_step w slc s q m log c) slc m log reply → left r m reply' ≡ left_by (obey_step q.wants slc s q m log c) slc m log reply
  by_wants w e h = subst (λ (x : Wants). left r m reply' ≡ left_by (obey_step x slc s q m log c) slc m log reply) (sym e) h

  pub wants_illegal : q.wants ≡ wants.Illegal → Answers (tells c 0x10 []) slc [] reply r reply' → left r m reply' ≡ left_by (obey_step q.wants slc s q m log c) slc m log reply
  unfolding obey_step
  wants_illegal w a = by_wants wants.Illegal w (kept slc m log c reply reply' r 0x10 [] a)

  pub wants_bad : q.wants ≡ wants.Bad → Answers (tells_bad c) slc [] reply r reply' → left r m reply' ≡ left_by (obey_step q.wants slc s q m log c) slc m log reply
  unfolding obey_step
  wants_bad w a = by_wants wants.Bad w (kept slc m log c reply reply' r 0xF0 _ a)

  pub wants_directory : (l : Layout) → q.wants ≡ wants.Directory l → Answers (tells_bad c) slc [] reply r reply' → left r m reply' ≡ left_by (obey_step q.wants slc s q m log c) slc m log reply
  unfolding obey_step
  wants_directory l w a = by_wants (wants.Directory l) w (kept slc m log c reply reply' r 0xF0 _ a)

  pub wants_diagnostic : q.wants ≡ wants.Diagnostic → Answers (status_step slc c) slc [] reply r reply' → left r m reply' ≡ left_by (obey_step q.wants slc s q m log c) slc m log reply
  unfolding obey_step status_step
  wants_diagnostic w a = by_wants wants.Diagnostic w (kept slc m log c reply reply' r 0 _ a)

  pub wants_entry : q.wants ≡ wants.Entry → Answers (pop_step slc log c) slc log reply r reply' → left r m reply' ≡ left_by (obey_step q.wants slc s q m log c) slc m log reply
  unfolding obey_step pop_step
  wants_entry w a = by_wants wants.Entry w (answers_left m m a (sym (stays (entries slc.log_left (drop slc.log_at log)))))
    where
      stays : (d : List (List ℕ)) → memory_left (popped c d).effect m ≡ m
      stays [] = unfold popped memory_left in refl
      stays (x ∷ xs) = unfold popped memory_left in refl

  pub wants_read : q.wants ≡ wants.Read → Answers (read_step s q m c) slc [] reply r reply' → left r m reply' ≡ left_by (obey_step q.wants slc s q m log c) slc m log reply
  unfolding obey_step read_step
  wants_read w a = by_wants wants.Read w (go (locate_by s q) a)
    where
      go : (o : Option ℕ) → Answers (read_at o q.size m c) slc [] reply r reply' → left r m reply' ≡ left_by (read_at o q.size m c) slc m log reply
      go None a = kept slc m log c reply reply' r 0xF0 _ a
      go (Some at) a = kept slc m log c reply reply' r 0 _ a

pub wants_write : (slc : Slc) (s : Seen) (q : Query) (m m' log c reply reply' : List ℕ) (r : Done) → q.wants ≡ wants.Write
    → left r m' reply' ≡ left_by (write_step s q m c) slc m [] reply → left r m' reply' ≡ left_by (obey_step q.wants slc s q m log c) slc m log reply
unfolding obey_step write_step
wants_write slc s q m m' log c reply reply' r w e =
    subst (λ (x : Wants). left r m' reply' ≡ left_by (obey_step x slc s q m log c) slc m log reply) (sym w) (e ∙ go (locate_by s q))
  where
    go : (o : Option ℕ) → left_by (write_at o q.mask (values_of q c) m c) slc m [] reply ≡ left_by (write_at o q.mask (values_of q c) m c) slc m log reply
    go None = unfold slc_left in refl
    go (Some at) = unfold slc_left in refl
