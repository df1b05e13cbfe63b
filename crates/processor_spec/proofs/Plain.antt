-- The plain data that a command leaves stands for the state that it leaves.
use Prim.Native.Nat.{ℕ, zero, suc, ◌+◌, ◌-◌, ◌<◌}
use mathlib.Core.Path.{◌≡◌, refl, sym, ap, subst, ◌∙◌}
use mathlib.Core.List.{List, [], ◌∷◌}
use mathlib.Core.Bool.{Bool, true, false, ◌&&◌, cond, false≢true}
use native.Mathlib.Omega.{arith}
use lib.Dec.{leb}
use lib.ListN.{length, take, drop}
use lib.Seq.{drop-drop}
use Rattle.base.specs.Put.{put}
use Rattle.processor_spec.specs.declared.FileRecord.{FileRecord}
use Rattle.processor_spec.specs.declared.Slc.{Slc}
use Rattle.processor_spec.specs.Ask.{Ask, fail, tell, pop, read, write, ask}
use Rattle.processor_spec.specs.Frame.{well_formed, cmd, function}
use Rattle.processor_spec.specs.Pccc.{memory_left, slc_left}
use Rattle.processor_spec.specs.Plain.{entry_room, entries, holds, within, held_state, no_state, state_of}
use Rattle.processor_spec.specs.State.{State, good_table, sound}
use Rattle.processor_spec.specs.Step.{Effect, keeps, takes, lays, Step, after, popped, perform, obey, refuse, step}
use Rattle.processor_spec.proofs.Tests.{and_l, and_r, and_both, cases}

-- an entry is taken only from a datalog that has one, and of a sound state
abbrev Taken : State → Step → Type 0
Taken s x = x.effect ≡ takes → 0 < length s.datalog

no_take : {A : Type 0} → keeps ≡ takes → A
no_take e = let z : ◌≡◌ {A = ℕ} 0 1 = cc in absurd (omega arith)

perform_taken : (s : State) (c : List ℕ) (q : Ask) → Taken s (perform s c q)
unfolding perform popped
perform_taken s c (fail n x) e = no_take e
perform_taken s c (tell bs) e = no_take e
perform_taken s c pop e = go s.datalog e
  where
    go : (d : List (List ℕ)) → (popped c d).effect ≡ takes → 0 < length d
    go [] e = no_take e
    go (x ∷ xs) e = omega arith
perform_taken s c (read at size) e = no_take e
perform_taken s c (write at mask vs) e = let z : ◌≡◌ {A = ℕ} 0 1 = cc in absurd (omega arith)

step_taken : (s : State) (c : List ℕ) (room : ℕ) → (step s c room).effect ≡ takes → (sound s ≡ true) × (0 < length s.datalog)
unfolding step refuse obey
step_taken s c room =
    let Goal : Step → Type 0 = λ x. x.effect ≡ takes → (sound s ≡ true) × (0 < length s.datalog) in
    cases Goal (sound s) _ _
    (λ h. cases Goal (leb 514 room) _ _
    (λ _. cases Goal (well_formed c) _ _ (λ _ e. (h, perform_taken s c (ask s.records s.type_text (cmd c) (function c)) e)) (λ _ e. no_take e))
    (λ _ e. no_take e))
    (λ _ e. no_take e)

-- the datalog in its memory, behind the oldest entry
log_next : (left at : ℕ) (log : List ℕ) → holds left (drop at log) ≡ true → 0 < length (entries left (drop at log))
    → (holds (left - 1) (drop (at + entry_room (drop at log)) log) ≡ true)
    × (entries (left - 1) (drop (at + entry_room (drop at log)) log) ≡ drop 1 (entries left (drop at log)))
unfolding holds entries
log_next zero at log h p = absurd (omega arith)
log_next (suc k) at log h p =
    let d : drop (at + entry_room (drop at log)) log ≡ drop (entry_room (drop at log)) (drop at log) = sym (drop-drop (entry_room (drop at log)) at log) in
    let m : suc k - 1 ≡ k = omega arith in
    rw (m, d) (search and_r, refl)

module _ (slc : Slc) (table : List FileRecord) (memory log : List ℕ) where
  -- a sound state is that of plain data that lies within its memories
  pub sound_within : sound (state_of slc table memory log) ≡ true → within slc table log ≡ true
  unfolding state_of
  sound_within h = go (within slc table log) refl h
    where
      go : (b : Bool) → within slc table log ≡ b → sound (cond b (held_state slc table memory log) (no_state memory)) ≡ true → within slc table log ≡ true
      go true e h = e
      go false e h = absurd (false≢true (unfold sound good_table no_state in h))

  -- soundness as a call finds it out
  pub sound_plain : sound (state_of slc table memory log) ≡ (within slc table log && sound (held_state slc table memory log))
  unfolding state_of
  sound_plain = go (within slc table log)
    where
      go : (b : Bool) → sound (cond b (held_state slc table memory log) (no_state memory)) ≡ (b && sound (held_state slc table memory log))
      go true = refl
      go false = unfold sound good_table no_state in refl

  pub held_is : within slc table log ≡ true → state_of slc table memory log ≡ held_state slc table memory log
  unfolding state_of
  held_is w = rw w

module _ (slc : Slc) (table : List FileRecord) (memory log : List ℕ) where
  -- taking an entry moves the two numbers
  module _ (w : within slc table log ≡ true) (p : 0 < length (held_state slc table memory log).datalog) where
    behind : (holds (slc.log_left - 1) (drop (slc.log_at + entry_room (drop slc.log_at log)) log) ≡ true)
        × (entries (slc.log_left - 1) (drop (slc.log_at + entry_room (drop slc.log_at log)) log) ≡ drop 1 (entries slc.log_left (drop slc.log_at log)))
    unfolding within held_state
    behind = log_next slc.log_left slc.log_at log (search (and_l, and_r)) p

    moved : within (slc_left takes slc log) table log ≡ true
    unfolding within slc_left
    moved =
        let front : (leb slc.files (length table) && leb slc.type_len 11) ≡ true = search and_l in
        and_both front behind.0

    popped_held : held_state (slc_left takes slc log) table memory log ≡ after (held_state slc table memory log) takes
    unfolding held_state slc_left after
    popped_held = λ i. record { records = take slc.files table; memory = memory; type_text = take slc.type_len slc.type_text; datalog = behind.1 i }

    popped_state : state_of (slc_left takes slc log) table memory log ≡ after (state_of slc table memory log) takes
    popped_state = held_is (slc_left takes slc log) table memory log moved ∙ popped_held ∙ ap (λ (s : State). after s takes) (sym (held_is slc table memory log w))

  laid_state : (at : ℕ) (bs : List ℕ) → state_of slc table (put memory at bs) log ≡ after (state_of slc table memory log) (lays at bs)
  unfolding state_of after
  laid_state at bs = go (within slc table log)
    where
      go : (b : Bool) → cond b (held_state slc table (put memory at bs) log) (no_state (put memory at bs))
          ≡ after (cond b (held_state slc table memory log) (no_state memory)) (lays at bs)
      go true = unfold held_state after in refl
      go false = unfold no_state after in refl

  -- what a command leaves
  pub state_left : (c : List ℕ) (room : ℕ) (e : Effect) → (step (state_of slc table memory log) c room).effect ≡ e
      → state_of (slc_left e slc log) table (memory_left e memory) log ≡ after (state_of slc table memory log) e
  unfolding memory_left
  state_left c room keeps q = unfold slc_left after in refl
  state_left c room (lays at bs) q = unfold slc_left in laid_state at bs
  state_left c room takes q =
      let t : (sound (state_of slc table memory log) ≡ true) × (0 < length (state_of slc table memory log).datalog) = step_taken (state_of slc table memory log) c room q in
      let w : within slc table log ≡ true = sound_within slc table memory log t.0 in
      popped_state w (subst (λ (s : State). 0 < length s.datalog) (held_is slc table memory log w) t.1)
