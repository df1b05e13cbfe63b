-- The questions of building, in their order.
use Rattle.std.specs.Prelude.{Option, None, Some, Result, Ok, Err}
use Prim.Native.Nat.{ℕ, ◌-◌, ◌≤◌}
use mathlib.Core.Path.{◌≡◌, refl, sym, ap, ap₂, ◌∙◌}
use mathlib.Core.Bool.{Bool, true, false, not, ◌&&◌, cond}
use mathlib.Core.List.{List, [], ◌∷◌, map}
use native.Mathlib.Omega.{arith}
use borrow.Author.Tests.{eqb-true, eqb-false, leb-true, not-true, not-false}
use lib.Dec.{leb, eqb}
use lib.ListN.{length, take, drop, get_or, replicate}
use lib.Seq.{take_at, take_all}
use Rattle.base.specs.declared.refusal.Refusal.{Refusal}
use Rattle.base.specs.declared.refusal.Refusal.TheVariants.{UnusableTypeText, FilesBeyondRoom, UnusableDatalog}
use Rattle.element_text.specs.Text.{fitted}
use Rattle.processor_spec.specs.declared.FileRecord.{FileRecord}
use Rattle.processor_spec.specs.Build.{wanted_of, defaults, or_defaults, file_refusal, records_of, planned, fits, log_fits, or_then, build_refusal, plan_of}
use Rattle.processor_spec.specs.Plain.{entries, holds}
use Rattle.processor_spec.specs.Refusals.{refusal_of}
use Rattle.processor_spec.specs.State.{total, good_text, good_log}
use Rattle.processor_spec.proofs.RefusalTold.{no_number}
use Rattle.processor_build_spec.specs.declared.Sums.{Sums}
use Rattle.processor_build_spec.specs.Plans.{judged, judged_of, room_for, list_judged, no_record, narrowed, record_of}

-- ---- 13, of the text in its array
text_back : (text : List ℕ) → length text ≤ 11 → take (length text) (fitted 11 0 text) ≡ text
unfolding fitted
text_back text h = rw (take_all 11 text h) (take_at text (replicate (11 - length text) 0) (length text) refl)

text_asked : (text ts : List ℕ) → ts ≡ fitted 11 0 text → (leb (length text) 11 && good_text (take (length text) ts)) ≡ good_text text
text_asked text ts e = go (leb (length text) 11) refl
  where
    go : (b : Bool) → leb (length text) 11 ≡ b → (b && good_text (take (length text) ts)) ≡ good_text text
    go true t = ap good_text (ap (take (length text)) e ∙ text_back text (leb-true (length text) 11 t))
    go false t = unfold good_text in rw t

-- ---- the questions, one after the other
module _ (fs : List (List ℕ)) (text log : List ℕ) (count t m : ℕ) (o : Result (Unit {0}) Refusal) (e : o ≡ refusal_of (file_refusal [] (map wanted_of fs))) where
  abbrev rs : List FileRecord
  rs = records_of (map wanted_of fs)

  -- what is asked after 11 and 12
  abbrev then : Option Refusal
  then = cond (good_text text) (cond (fits rs t m) (cond (log_fits count log) None (Some UnusableDatalog)) (Some FilesBeyondRoom)) (Some UnusableTypeText)

  pub judge_files : (n : Refusal) → o ≡ Err n → Err n ≡ list_judged fs text log count t m
  unfolding list_judged
  judge_files n i = go (file_refusal [] (map wanted_of fs)) e
    where
      go : (x : Option Refusal) → o ≡ refusal_of x → Err n ≡ judged (or_then x then) rs
      go None f = no_number (sym f ∙ i)
      go (Some k) f = let g : n ≡ k = cc in cc

  module _ (i : o ≡ Ok tt) where
    passed : list_judged fs text log count t m ≡ judged then rs
    unfolding list_judged
    passed = go (file_refusal [] (map wanted_of fs)) e
      where
        go : (x : Option Refusal) → o ≡ refusal_of x → judged (or_then x then) rs ≡ judged then rs
        go None f = refl
        go (Some k) f = no_number (sym i ∙ f)

    pub judge_text : (ts : List ℕ) (g : Bool) → ts ≡ fitted 11 0 text → g ≡ (leb (length text) 11 && good_text (take (length text) ts)) → not g ≡ true → Err UnusableTypeText ≡ list_judged fs text log count t m
    judge_text ts g et eg off = sym (passed ∙ rw (sym (eg ∙ text_asked text ts et) ∙ not-true g off))

    module _ (ts : List ℕ) (g : Bool) (et : ts ≡ fitted 11 0 text) (eg : g ≡ (leb (length text) 11 && good_text (take (length text) ts))) (on : not g ≡ false) (sums : Sums) (s : (sums.records ≡ length rs) × (sums.total ≡ total rs)) (y : Bool) (ey : y ≡ room_for sums.records sums.total t m) where
      good : good_text text ≡ true
      good = sym (eg ∙ text_asked text ts et) ∙ not-false g on

      room : y ≡ fits rs t m
      unfolding fits room_for
      room = ey ∙ ap₂ (λ (k b : ℕ). leb b 65535 && leb k t && leb b m) s.0 s.1

      pub judge_room : not y ≡ true → Err FilesBeyondRoom ≡ list_judged fs text log count t m
      judge_room off = sym (passed ∙ rw (good, sym room ∙ not-true y off))

      pub judge_log : (l : Bool) → not y ≡ false → l ≡ (holds count (drop 0 log) && good_log (entries count (drop 0 log))) → not l ≡ true → Err UnusableDatalog ≡ list_judged fs text log count t m
      unfolding log_fits
      judge_log l fit el off = sym (passed ∙ rw (good, sym room ∙ not-false y fit, sym el ∙ not-true l off))

      pub judge_ready : (l : Bool) → not y ≡ false → l ≡ (holds count (drop 0 log) && good_log (entries count (drop 0 log))) → not l ≡ false → Ok sums ≡ list_judged fs text log count t m
      unfolding log_fits
      judge_ready l fit el whole =
          (λ k. Ok (record { records = s.0 k; total = s.1 k })) ∙ sym (passed ∙ rw (good, sym room ∙ not-false y fit, sym el ∙ not-false l whole))

-- ---- the default files
abbrev default_files : List (List ℕ)
default_files =
    (0 ∷ 0x82 ∷ 8 ∷ [])
    ∷ (1 ∷ 0x83 ∷ 8 ∷ [])
    ∷ (2 ∷ 0x84 ∷ 83 ∷ [])
    ∷ (3 ∷ 0x85 ∷ 32 ∷ [])
    ∷ (4 ∷ 0x86 ∷ 16 ∷ [])
    ∷ (5 ∷ 0x87 ∷ 16 ∷ [])
    ∷ (6 ∷ 0x88 ∷ 8 ∷ [])
    ∷ (7 ∷ 0x89 ∷ 100 ∷ [])
    ∷ (8 ∷ 0x8A ∷ 50 ∷ [])
    ∷ []

module _ (fs : List (List ℕ)) (y : Bool) (e : y ≡ eqb (length fs) 0) where
  pub no_files : y ≡ true → map wanted_of default_files ≡ or_defaults (map wanted_of fs)
  unfolding or_defaults defaults
  no_files t = go fs (eqb-true (length fs) 0 (sym e ∙ t))
    where
      go : (gs : List (List ℕ)) → length gs ≡ 0 → map wanted_of default_files ≡ or_defaults (map wanted_of gs)
      go [] h = refl
      go (g ∷ gs) h = absurd (omega arith)

  pub some_files : y ≡ false → map wanted_of fs ≡ or_defaults (map wanted_of fs)
  unfolding or_defaults
  some_files t = go fs (eqb-false (length fs) 0 (sym e ∙ t))
    where
      go : (gs : List (List ℕ)) → (length gs ≡ 0 → ⊥) → map wanted_of gs ≡ or_defaults (map wanted_of gs)
      go [] h = absurd (h refl)
      go (g ∷ gs) h = refl

module _ (fs gs : List (List ℕ)) (e : map wanted_of gs ≡ or_defaults (map wanted_of fs)) where
  pub judged_is : (text log : List ℕ) (count t m : ℕ) (r : Result Sums Refusal) → r ≡ list_judged gs text log count t m → r ≡ judged_of (plan_of fs text log count) t m
  unfolding judged_of build_refusal planned list_judged
  judged_is text log count t m r q = q ∙ rw e

  pub record_is : (i : ℕ) (r : FileRecord) → r ≡ narrowed (get_or (records_of (map wanted_of gs)) i no_record) → r ≡ record_of fs i
  unfolding record_of
  record_is i r q = q ∙ rw e
