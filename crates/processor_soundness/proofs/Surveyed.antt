-- Soundness, test by test; and what the survey of a table gives is the state's.
use Prim.Native.Nat.{ℕ}
use mathlib.Core.Path.{◌≡◌, refl, sym, ◌∙◌}
use mathlib.Core.Bool.{Bool, true, false, ◌&&◌, cond}
use mathlib.Core.List.{List}
use lib.Dec.{leb}
use lib.ListN.{length, take, drop}
use Rattle.processor_spec.specs.declared.FileRecord.{FileRecord}
use Rattle.processor_spec.specs.declared.Slc.{Slc}
use Rattle.processor_spec.specs.Plain.{entries, holds, within, held_state, state_of}
use Rattle.processor_spec.specs.State.{total, good_text, good_log, good_table, sound}
use Rattle.processor_spec.proofs.Plain.{sound_plain}
use Rattle.processor_spec.proofs.Tests.{and_r}
use Rattle.processor_table.specs.declared.Seen.{Seen}
use Rattle.processor_table.specs.Survey.{told_of, lost_of, survey_of}
use Rattle.processor_soundness.specs.Sound.{good_log_by, sound_by}

module _ (slc : Slc) (s : Seen) (n : ℕ) (log : List ℕ) where
  pub log_good : sound_by slc s n log ≡ true → good_log_by slc log ≡ true
  unfolding sound_by
  log_good h = and_r (s.sound && leb s.total n && (leb slc.type_len 11 && good_text (take slc.type_len slc.type_text))) (good_log_by slc log) h

-- ---- the same of the state
shuffle : (T L X H G : Bool) → ((T && (L && X)) && (H && G)) ≡ ((L && H) && ((T && X) && G))
shuffle true true X true G = refl
shuffle true true true false G = refl
shuffle true true false false G = refl
shuffle true false X H G = refl
shuffle false true X true G = refl
shuffle false true X false G = refl
shuffle false false X H G = refl

never : (k : Bool) → (k && false) ≡ false
never true = refl
never false = refl

module _ (slc : Slc) (t : List FileRecord) (m log : List ℕ) (number : ℕ) where
  pub sound_is : sound_by slc (survey_of t slc.files number) (length m) log ≡ sound (state_of slc t m log)
  unfolding sound_by good_log_by survey_of within sound held_state
  sound_is = go (leb slc.files (length t)) (good_table (take slc.files t)) ∙ sym (sound_plain slc t m log)
    where
      L : Bool
      L = leb slc.type_len 11

      X : Bool
      X = good_text (take slc.type_len slc.type_text)

      H : Bool
      H = holds slc.log_left (drop slc.log_at log)

      G : Bool
      G = good_log (entries slc.log_left (drop slc.log_at log))

      go : (a g : Bool)
          → ((cond (a && g) (told_of number (take slc.files t)) (lost_of number)).sound && leb (cond (a && g) (told_of number (take slc.files t)) (lost_of number)).total (length m) && (L && X) && (H && G))
          ≡ ((a && L && H) && (g && leb (total (take slc.files t)) (length m) && X && G))
      go true true = unfold told_of in shuffle (leb (total (take slc.files t)) (length m)) L X H G
      go true false = unfold lost_of in sym (never (L && H))
      go false g = unfold lost_of in refl
