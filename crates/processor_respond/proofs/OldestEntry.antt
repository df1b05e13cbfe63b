-- The oldest datalog entry.
use Prim.Native.Nat.{ℕ, suc, ◌+◌, ◌-◌, ◌≤◌, ◌<◌, ◌^◌}
use mathlib.Core.Path.{◌≡◌, refl, sym, ap, subst, ◌∙◌}
use mathlib.Core.Bool.{true, ◌&&◌}
use mathlib.Core.List.{List, [], ◌∷◌}
use native.Mathlib.Omega.{arith}
use borrow.Author.Tests.{leb-true}
use lib.Dec.{leb}
use lib.ListN.{length, take, drop, length-take, length-drop}
use lib.Seq.{drop-drop, take-nil}
use Rattle.base.specs.Numbers.{number}
use Rattle.processor_spec.specs.declared.Done.{Done}
use Rattle.processor_spec.specs.declared.Slc.{Slc}
use Rattle.processor_spec.specs.Frame.{framed}
use Rattle.processor_spec.specs.Pccc.{answered_of, reply_left, slc_left}
use Rattle.processor_spec.specs.Plain.{entry_room, entries, holds}
use Rattle.processor_spec.specs.State.{every, good_log}
use Rattle.processor_spec.specs.Step.{Step, replied, takes, popped}
use Rattle.processor_spec.proofs.Tests.{and_l, and_r}
use Rattle.processor_soundness.specs.Sound.{good_log_by}
use Rattle.processor_refinement.specs.StepsBySurvey.{Answers, tells, pop_step}

-- the first of some entries
first_fits : (k : ℕ) (log : List ℕ) → (holds (suc k) log && good_log (entries (suc k) log)) ≡ true → (entry_room log ≤ length log) × (entry_room log ≤ 257)
unfolding holds entries good_log every
first_fits k log t =
    let h : (leb 2 (length log) && leb (entry_room log) (length log) && holds k (drop (entry_room log) log)) ≡ true = and_l _ _ t in
    let r : entry_room log ≤ length log = leb-true (entry_room log) (length log) (and_r (leb 2 (length log)) _ (and_l _ _ h)) in
    let g : leb (length (drop 2 (take (entry_room log) log))) 255 ≡ true =
    and_l _ _ (and_r (leb (length (entries (suc k) log)) 64) _ (and_r (leb 2 (length log) && leb (entry_room log) (length log) && holds k (drop (entry_room log) log)) _ t)) in
    let l : length (drop 2 (take (entry_room log) log)) ≤ 255 = leb-true (length (drop 2 (take (entry_room log) log))) 255 g in
    let n : length (drop 2 (take (entry_room log) log)) ≡ entry_room log - 2 = simp (length-drop, length-take) (omega arith) in
    (r, omega arith)

drop_two : (n : ℕ) (s : List ℕ) → drop 2 (take (2 + n) s) ≡ take n (drop 2 s)
drop_two n s = let e : 2 + n ≡ suc (suc n) = omega arith in rw e (go s)
  where
    go : (s : List ℕ) → drop 2 (take (suc (suc n)) s) ≡ take n (drop 2 s)
    go [] = sym (take-nil n)
    go (a ∷ []) = sym (take-nil n)
    go (a ∷ b ∷ s) = refl

module _ (slc : Slc) (log : List ℕ) (n : ℕ) (e : n ≡ number (take 2 (drop slc.log_at log))) (g : good_log_by slc log ≡ true) (ne : slc.log_left ≡ 0 → ⊥) where
  more : slc.log_left ≡ suc (slc.log_left - 1)
  more = omega arith

  fits : (entry_room (drop slc.log_at log) ≤ length (drop slc.log_at log)) × (entry_room (drop slc.log_at log) ≤ 257)
  unfolding good_log_by
  fits = first_fits (slc.log_left - 1) (drop slc.log_at log) (subst (λ (k : ℕ). (holds k (drop slc.log_at log) && good_log (entries k (drop slc.log_at log))) ≡ true) more g)

  room : entry_room (drop slc.log_at log) ≡ 2 + n
  unfolding entry_room
  room = ap (λ (k : ℕ). 2 + k) (sym e)

  entry_fits : slc.log_at + (2 + n) ≤ length log
  entry_fits =
      let l : length (drop slc.log_at log) ≡ length log - slc.log_at = length-drop slc.log_at log in
      omega (arith, fits.0, room, l)

  -- the places are numbers that a `usize` holds, as the datalog's memory has so many bytes at most
  module _ (h : length log < 2 ^ 64) where
    pub begin_fits : slc.log_at + 2 < 2 ^ 64
    begin_fits = omega (arith, entry_fits)

    pub end_fits : slc.log_at + (2 + n) < 2 ^ 64
    end_fits = omega (arith, entry_fits)

  pub entry_small : n < 2 ^ 8
  entry_small = omega (arith, fits.1, room)

  pub popped_there : (c bs reply reply' : List ℕ) (r : Done) → bs ≡ take n (drop (slc.log_at + 2) log)
      → Answers (tells c 0 bs) (record { files = slc.files; type_text = slc.type_text; type_len = slc.type_len; log_at = slc.log_at + (2 + n); log_left = slc.log_left - 1 }) [] reply r reply'
      → Answers (pop_step slc log c) slc log reply r reply'
  unfolding pop_step popped entries slc_left answered_of reply_left
  popped_there c bs reply reply' r eb a =
      let at : ℕ = slc.log_at in
      let x : bs ≡ drop 2 (take (entry_room (drop at log)) (drop at log)) =
      eb ∙ ap (take n) (sym (drop-drop 2 at log)) ∙ sym (drop_two n (drop at log)) ∙ ap (λ (k : ℕ). drop 2 (take k (drop at log))) (sym room) in
      let moved : at + (2 + n) ≡ at + entry_room (drop at log) = ap (λ (k : ℕ). at + k) (sym room) in
      let is : pop_step slc log c ≡ record { answer = replied (framed c 0 (drop 2 (take (entry_room (drop at log)) (drop at log)))); effect = takes } =
      ap (λ (k : ℕ). popped c (entries k (drop at log))) more in
      subst (λ (y : Step). Answers y slc log reply r reply') (sym is) (record {
        done = a.done ∙ (λ i. record {
          slc = record { files = slc.files; type_text = slc.type_text; type_len = slc.type_len; log_at = moved i; log_left = slc.log_left - 1 };
          answered = answered_of (replied (framed c 0 (x i)));
        });
        left = a.left ∙ ap (λ (z : List ℕ). reply_left (replied (framed c 0 z)) reply) x;
      })

pub popped_none : (slc : Slc) (log c reply reply' : List ℕ) (r : Done) → slc.log_left ≡ 0 → Answers (tells c 0x10 []) slc [] reply r reply' → Answers (pop_step slc log c) slc log reply r reply'
unfolding pop_step popped entries slc_left
popped_none slc log c reply reply' r z a =
    let is : pop_step slc log c ≡ tells c 0x10 [] = ap (λ (k : ℕ). popped c (entries k (drop slc.log_at log))) z in
    subst (λ (y : Step). Answers y slc log reply r reply') (sym is) (record { done = a.done; left = a.left })
