-- What a command, or a building, that is turned away leaves of all that was lent: everything.
use Rattle.std.specs.Prelude.{ℕ, Some, Ok, Err}
use mathlib.Core.Path.{◌≡◌, ap}
use mathlib.Core.List.{List}
use lib.ListN.{length}
use Rattle.base.specs.declared.refusal.Refusal.{Refusal}
use Rattle.base.specs.Put.{put}
use Rattle.processor_spec.specs.declared.FileRecord.{FileRecord}
use Rattle.processor_spec.specs.declared.Slc.{Slc}
use Rattle.processor_spec.specs.Build.{Plan, build_refusal, no_slc, Raised, raised, new_of}
use Rattle.processor_spec.specs.Frame.{status}
use Rattle.processor_spec.specs.Pccc.{answered_of, reply_left, memory_left, slc_left, left, pccc_of}
use Rattle.processor_spec.specs.Plain.{state_of}
use Rattle.processor_spec.specs.Step.{Step, refused, replied, step}
use Rattle.processor_spec.proofs.Steps.{status_keeps, refusal_keeps}

module _ (slc : Slc) (table : List FileRecord) (memory log command reply : List ℕ) where
  abbrev said : Step
  said = step (state_of slc table memory log) command (length reply)

  -- "A numbered refusal .. changes no lent memory."
  pub refusal_leaves : (n : Refusal) → said.answer ≡ refused n → pccc_of slc table memory log command reply ≡ left (record { slc = slc; answered = Err n }) memory reply
  unfolding pccc_of answered_of reply_left memory_left slc_left
  refusal_leaves n e = rw (e, refusal_keeps (state_of slc table memory log) command (length reply) n e)

  -- "Any status but 0 changes no file and no datalog."
  pub status_leaves : (bs : List ℕ) → said.answer ≡ replied bs → (status command bs ≡ 0 → ⊥)
      → pccc_of slc table memory log command reply ≡ left (record { slc = slc; answered = Ok (length bs) }) memory (put reply 0 bs)
  unfolding pccc_of answered_of reply_left memory_left slc_left
  status_leaves bs e ne = rw (e, status_keeps (state_of slc table memory log) command (length reply) bs e ne)

-- Building that is refused leaves the table and the data, and gives a processor without files, to which every call says 16.
module _ (p : Plan) (table : List FileRecord) (memory : List ℕ) (n : Refusal) (e : build_refusal p (length table) (length memory) ≡ Some n) where
  pub building_leaves : new_of p table memory ≡ raised (record { slc = no_slc; made = Err n }) table memory
  unfolding new_of
  building_leaves = rw e

  pub without_files : (new_of p table memory).built.slc.files ≡ 0
  unfolding no_slc
  without_files = ap (λ (r : Raised). r.built.slc.files) building_leaves
