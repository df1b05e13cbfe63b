-- The questions in front of what a command does.
use Rattle.std.specs.Prelude.{Option, None, Some, Result, Ok, Err}
use Prim.Native.Nat.{ℕ, ◌≤◌}
use mathlib.Core.Path.{◌≡◌, refl, sym, ◌∙◌}
use mathlib.Core.Bool.{Bool, true, false}
use mathlib.Core.List.{List}
use borrow.Author.Tests.{leb-true}
use lib.Dec.{leb}
use lib.ListN.{length}
use Rattle.base.specs.declared.refusal.Refusal.{Refusal}
use Rattle.parser_spec.proofs.Held.{no_some}
use Rattle.processor_spec.specs.declared.Done.{Done}
use Rattle.processor_spec.specs.declared.Slc.{Slc}
use Rattle.processor_spec.specs.Frame.{well_formed}
use Rattle.processor_spec.specs.Pccc.{answered_of, reply_left, memory_left, slc_left, Left, left, left_by}
use Rattle.processor_spec.specs.Refusals.{refusal_of}
use Rattle.processor_spec.specs.Step.{Step, refuse}
use Rattle.processor_spec.proofs.RefusalTold.{no_number}
use Rattle.processor_soundness.specs.Sound.{good_log_by, sound_by}
use Rattle.processor_soundness.proofs.Surveyed.{log_good as log-of}
use Rattle.processor_table.specs.declared.Seen.{Seen}
use Rattle.processor_refinement.specs.CallBySurvey.{first_no, question_of, questioned}

-- what a refusal tells of the answers
none_told : (q : Option Refusal) → Ok tt ≡ refusal_of q → q ≡ None
none_told None e = refl
none_told (Some n) e = no_number e

refusal_told : (n : Refusal) (q : Option Refusal) → Err n ≡ refusal_of q → q ≡ Some n
refusal_told n None e = no_number (sym e)
refusal_told n (Some k) e = cc

-- ---- the call
module _ (slc : Slc) (s : Seen) (m log c reply : List ℕ) where
  abbrev asked : Option Refusal
  asked = question_of (sound_by slc s (length m) log) (length reply) c

  module _ (r : Result (Unit {0}) Refusal) (e : r ≡ refusal_of asked) where
    -- what `questioned` gives, for any step behind the questions
    pub refuses : (x : Step) (n : Refusal) → r ≡ Err n → left (record { slc = slc; answered = Err n }) m reply ≡ left_by (questioned asked x) slc m log reply
    unfolding refuse slc_left answered_of memory_left reply_left
    refuses x n h = rw (refusal_told n asked (sym h ∙ e))

    pub goes_on : (x : Step) (y : Left Done) → r ≡ Ok tt → y ≡ left_by x slc m log reply → y ≡ left_by (questioned asked x) slc m log reply
    goes_on x y z h = rw (none_told asked (sym z ∙ e)) h

    -- where each is answered with yes
    module _ (z : r ≡ Ok tt) where
      record Answered-yes : Type 0 where
        sound : sound_by slc s (length m) log ≡ true
        room : 514 ≤ length reply
        well : well_formed c ≡ true

      all_yes : Answered-yes
      unfolding question_of
      all_yes = go (sound_by slc s (length m) log) refl (leb 514 (length reply)) refl (well_formed c) refl (none_told asked (sym z ∙ e))
        where
          go : (b : Bool) → sound_by slc s (length m) log ≡ b → (r : Bool) → leb 514 (length reply) ≡ r → (w : Bool) → well_formed c ≡ w → first_no b r w ≡ None → Answered-yes
          go true p true q true u h = record { sound = p; room = leb-true 514 (length reply) q; well = u }
          go true p true q false u h = no_some (sym h)
          go true p false q w u h = no_some (sym h)
          go false p r q w u h = no_some (sym h)

      pub log_good : good_log_by slc log ≡ true
      log_good = log-of slc s (length m) log all_yes.sound

      pub room_there : 514 ≤ length reply
      room_there = all_yes.room

      pub well_there : well_formed c ≡ true
      well_there = all_yes.well
