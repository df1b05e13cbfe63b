-- The call, where the directory isn't asked for.
use Rattle.std.specs.Prelude.{Result, Ok, Err}
use Prim.Native.Nat.{ℕ}
use mathlib.Core.Path.{◌≡◌}
use mathlib.Core.List.{List}
use lib.ListN.{length}
use Rattle.base.specs.declared.refusal.Refusal.{Refusal}
use Rattle.processor_spec.specs.declared.Done.{Done}
use Rattle.processor_spec.specs.declared.Slc.{Slc}
use Rattle.processor_spec.specs.Pccc.{left, left_by}
use Rattle.processor_spec.specs.Refusals.{refusal_of}
use Rattle.processor_query.specs.declared.Query.{Query}
use Rattle.processor_soundness.specs.Sound.{sound_by}
use Rattle.processor_table.specs.declared.Seen.{Seen}
use Rattle.processor_refinement.specs.CallBySurvey.{question_of, respond_of}
use Rattle.processor_refinement.specs.StepsBySurvey.{obey_step}
use Rattle.processor_refinement.proofs.Questions.{refuses, goes_on}

module _ (slc : Slc) (s : Seen) (q : Query) (m log c reply : List ℕ) (x : Result (Unit {0}) Refusal) (e : x ≡ refusal_of (question_of (sound_by slc s (length m) log) (length reply) c)) where
  pub refused_by_lem : (n : Refusal) → x ≡ Err n → left (record { slc = slc; answered = Err n }) m reply ≡ respond_of slc s q m log c reply
  unfolding respond_of
  refused_by_lem n h = refuses slc s m log c reply x e (obey_step q.wants slc s q m log c) n h

  pub responded : (r : Done) (m' reply' : List ℕ) → x ≡ Ok tt → left r m' reply' ≡ left_by (obey_step q.wants slc s q m log c) slc m log reply → left r m' reply' ≡ respond_of slc s q m log c reply
  unfolding respond_of
  responded r m' reply' z h = goes_on slc s m log c reply x e (obey_step q.wants slc s q m log c) (left r m' reply') z h
