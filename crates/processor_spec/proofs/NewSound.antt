-- Building gives a sound state, with the files that were wanted.
use Rattle.std.specs.Prelude.{Option, None, Some, Ok}
use Prim.Native.Nat.{ℕ, zero, suc, ◌+◌, ◌-◌, ◌*◌, ◌%◌, ◌≤◌, ◌<◌}
use mathlib.Core.Path.{◌≡◌, refl, sym, ap, subst, ◌∙◌}
use mathlib.Core.Bool.{Bool, true, false, not, ◌&&◌, cond}
use mathlib.Core.List.{List, [], ◌∷◌, ◌++◌}
use mathlib.Core.Logic.{◌⊎◌, inl, inr}
use native.Mathlib.Nat.{mul-mod_left, eq-or-lt_of_le}
use native.Mathlib.Omega.{arith}
use borrow.Author.Tests.{eqb-true, eq-eqb, ne_eqb, leb-true, le-leb, lt-ltb}
use lib.Dec.{leb, ltb, eqb}
use lib.ListN.{length, take, drop, replicate, length-append, length-drop, length-replicate}
use lib.Seq.{take_at, take_all}
use Rattle.base.specs.declared.refusal.Refusal.{Refusal}
use Rattle.base.specs.declared.refusal.Refusal.TheVariants.{UnknownFileType, UnusableFileNumber, UnusableTypeText, FilesBeyondRoom, UnusableDatalog}
use Rattle.base.specs.Put.{put}
use Rattle.base.proofs.Put.{put_length}
use Rattle.parser_spec.proofs.Held.{no_some}
use Rattle.element_text.specs.Text.{fitted}
use Rattle.file_type.specs.Table.{element_size}
use Rattle.processor_spec.specs.declared.FileRecord.{FileRecord}
use Rattle.processor_spec.specs.Build.{Wanted, wanted, defaults, or_defaults, wanted_with, has, file_refusal, record_at, lay, records_from, records_of, Plan, planned, fits, log_fits, or_then, build_refusal, slc_of, raise, new_of}
use Rattle.processor_spec.specs.Files.{shape, find}
use Rattle.processor_spec.specs.Plain.{entries, holds, within, held_state, state_of}
use Rattle.processor_spec.specs.State.{State, every, known_code, good_record, ascend, end_to_end, total, good_text, good_log, good_table, sound}
use Rattle.processor_spec.proofs.Plain.{held_is}
use Rattle.processor_spec.proofs.Tests.{and_l, and_r, and_both}

-- ---- the file that is found

wanted_number : (n : ℕ) (ws : List Wanted) (w : Wanted) → wanted_with n ws ≡ Some w → w.number ≡ n
unfolding wanted_with
wanted_number n [] w e = no_some e
wanted_number n (v ∷ vs) w e = go (eqb v.number n) refl e (wanted_number n vs w)
  where
    go : (b : Bool) → eqb v.number n ≡ b → cond b (Some v) (wanted_with n vs) ≡ Some w → (wanted_with n vs ≡ Some w → w.number ≡ n) → w.number ≡ n
    go true t e ih = let p : v ≡ w = cc in ap (λ (x : Wanted). x.number) (sym p) ∙ eqb-true v.number n t
    go false t e ih = ih e

-- a list that isn't refused: each code is known, each number at most 255
record Accepted (w : Wanted) : Type 0 where
  known : known_code w.code ≡ true
  small : w.number ≤ 255

module _ (seen : List ℕ) (w : Wanted) (ws : List Wanted) where
  first_accepted : file_refusal seen (w ∷ ws) ≡ None → Accepted w × (file_refusal (w.number ∷ seen) ws ≡ None)
  unfolding file_refusal
  first_accepted e = go (known_code w.code) refl (leb w.number 255 && not (has w.number seen)) refl e
    where
      go : (b : Bool) → known_code w.code ≡ b → (d : Bool) → (leb w.number 255 && not (has w.number seen)) ≡ d
          → cond b (cond d (file_refusal (w.number ∷ seen) ws) (Some UnusableFileNumber)) (Some UnknownFileType) ≡ None → Accepted w × (file_refusal (w.number ∷ seen) ws ≡ None)
      go true k true t e = (record { known = k; small = leb-true w.number 255 (and_l _ (not (has w.number seen)) t) }, e)
      go true k false t e = no_some (sym e)
      go false k d t e = no_some (sym e)

accepted : (seen : List ℕ) (n : ℕ) (ws : List Wanted) (w : Wanted) → file_refusal seen ws ≡ None → wanted_with n ws ≡ Some w → Accepted w
unfolding wanted_with
accepted seen n [] w r e = no_some e
accepted seen n (v ∷ vs) w r e = go (eqb v.number n) e (accepted (v.number ∷ seen) n vs w (first_accepted seen v vs r).1)
  where
    go : (b : Bool) → cond b (Some v) (wanted_with n vs) ≡ Some w → (wanted_with n vs ≡ Some w → Accepted w) → Accepted w
    go true e ih = let p : v ≡ w = cc in subst Accepted p (first_accepted seen v vs r).0
    go false e ih = ih e

-- ---- the records

ascend_lower : (n : ℕ) (rs : List FileRecord) → ascend (suc n) rs ≡ true → ascend n rs ≡ true
unfolding ascend
ascend_lower n [] h = refl
ascend_lower n (r ∷ rs) h =
    let l : suc n ≤ r.number = leb-true (suc n) r.number (search and_l) in
    and_both (le-leb n r.number (omega arith)) (search and_r)

good_at : (at : ℕ) (w : Wanted) → Accepted w → good_record (record_at at w) ≡ true
unfolding good_record
good_at at w a =
    let front : (leb w.number 255 && known_code w.code) ≡ true = and_both (le-leb w.number 255 a.small) a.known in
    and_both front (eq-eqb (w.elements * element_size w.code % element_size w.code) 0 (mul-mod_left w.elements (element_size w.code)))

-- the tests of a table, of the records from a number on
record Fine (n at : ℕ) (rs : List FileRecord) : Type 0 where
  good : every good_record rs ≡ true
  ascending : ascend n rs ≡ true
  ends : end_to_end at rs ≡ true

-- one record, and then those behind it
one_fine : (n at : ℕ) (w : Wanted) (rs : List FileRecord) → w.number ≡ n → Accepted w → Fine (suc n) (at + w.elements * element_size w.code) rs
    → Fine n at (record_at at w ∷ rs)
unfolding every ascend end_to_end
one_fine n at w rs q a f = record {
  good = and_both (good_at at w a) f.good;
  ascending = and_both (le-leb n w.number (subst (λ (k : ℕ). n ≤ k) (sym q) (omega arith))) (subst (λ (k : ℕ). ascend (suc k) rs ≡ true) (sym q) f.ascending);
  ends = and_both (eq-eqb at at refl) f.ends;
}

module _ (ws : List Wanted) (r : file_refusal [] ws ≡ None) where
  fine : (k n at : ℕ) → Fine n at (records_from k n at ws)
  unfolding records_from
  fine zero n at = record { good = unfold every in refl; ascending = unfold ascend in refl; ends = unfold end_to_end in refl }
  fine (suc k) n at = go (wanted_with n ws) refl (λ next. fine k (suc n) next)
    where
      go : (o : Option Wanted) → wanted_with n ws ≡ o → ((next : ℕ) → Fine (suc n) next (records_from k (suc n) next ws))
          → Fine n at (lay at o (λ (next : ℕ). records_from k (suc n) next ws))
      go None e ih = let f : Fine (suc n) at (records_from k (suc n) at ws) = ih at in record { good = f.good; ascending = ascend_lower n _ f.ascending; ends = f.ends }
      go (Some w) e ih = one_fine n at w _ (wanted_number n ws w e) (accepted [] n ws w r e) (ih (at + w.elements * element_size w.code))

-- ---- each file that is wanted, and no other, has a record with its type and length

abbrev pub wanted_shape : Option Wanted → Option (ℕ × ℕ × ℕ)
wanted_shape None = None
wanted_shape (Some w) = Some (w.number, w.code, w.elements * element_size w.code)

abbrev pub found_shape : Option FileRecord → Option (ℕ × ℕ × ℕ)
found_shape None = None
found_shape (Some r) = Some (shape r)

not_below : (m n : ℕ) (rs : List FileRecord) → m < n → ascend n rs ≡ true → find m rs ≡ None
unfolding ascend find
not_below m n [] l h = refl
not_below m n (r ∷ rs) l h =
    let a : n ≤ r.number = leb-true n r.number (search and_l) in
    let ne : r.number ≡ m → ⊥ = λ e. let z : suc m ≤ m = subst (λ (k : ℕ). suc m ≤ k) e (omega arith) in absurd (omega arith) in
    rw (ne_eqb r.number m ne) (not_below m (suc r.number) rs (omega arith) (and_r (leb n r.number) _ h))

module _ (ws : List Wanted) (r : file_refusal [] ws ≡ None) where
  finds_from : (k n at m : ℕ) → n ≤ m → m < n + k → found_shape (find m (records_from k n at ws)) ≡ wanted_shape (wanted_with m ws)
  unfolding records_from shape find
  finds_from zero n at m l h = absurd (omega arith)
  finds_from (suc k) n at m l h = go (wanted_with n ws) refl (eq-or-lt_of_le l) (λ next g. finds_from k (suc n) next m g (omega arith))
    where
      go : (o : Option Wanted) → wanted_with n ws ≡ o → (n ≡ m) ⊎ (n < m)
          → ((next : ℕ) → n < m → found_shape (find m (records_from k (suc n) next ws)) ≡ wanted_shape (wanted_with m ws))
          → found_shape (find m (lay at o (λ (next : ℕ). records_from k (suc n) next ws))) ≡ wanted_shape (wanted_with m ws)
      go None e (inr g) ih = ih at g
      go None e (inl q) ih =
          ap found_shape (not_below m (suc n) (records_from k (suc n) at ws) (omega arith) (fine ws r k (suc n) at).ascending)
          ∙ ap wanted_shape (sym e ∙ ap (λ (j : ℕ). wanted_with j ws) q)
      go (Some w) e (inr g) ih =
          let ne : w.number ≡ m → ⊥ = λ x. let z : suc n ≤ n = subst (λ (j : ℕ). suc n ≤ j) (sym x ∙ wanted_number n ws w e) g in absurd (omega arith) in
          rw (ne_eqb w.number m ne) (ih (at + w.elements * element_size w.code) g)
      go (Some w) e (inl q) ih =
          rw (eq-eqb w.number m (wanted_number n ws w e ∙ q)) (ap wanted_shape (sym e ∙ ap (λ (j : ℕ). wanted_with j ws) q))

  pub built_finds : (m : ℕ) → m ≤ 255 → found_shape (find m (records_of ws)) ≡ wanted_shape (wanted_with m ws)
  unfolding records_of
  built_finds m l = finds_from 256 0 0 m (omega arith) (omega arith)

-- ---- there is a file

not_empty : (rs : List FileRecord) (m : ℕ) {x : ℕ × ℕ × ℕ} → found_shape (find m rs) ≡ Some x → 0 < length rs
unfolding find
not_empty [] m e = no_some e
not_empty (r ∷ rs) m e = omega arith

first_wanted : (v : Wanted) (vs : List Wanted) → wanted_with v.number (v ∷ vs) ≡ Some v
unfolding wanted_with
first_wanted v vs = rw (eq-eqb v.number v.number refl)

first_built : (w : Wanted) (ws : List Wanted) → file_refusal [] (w ∷ ws) ≡ None → 0 < length (records_of (w ∷ ws))
first_built w ws r =
    not_empty (records_of (w ∷ ws)) w.number (built_finds (w ∷ ws) r w.number (first_accepted [] w ws r).0.small ∙ ap wanted_shape (first_wanted w ws))

some_file : (ws : List Wanted) → file_refusal [] (or_defaults ws) ≡ None → 0 < length (records_of (or_defaults ws))
unfolding or_defaults defaults
some_file [] r = first_built (wanted 0 0x82 8) _ r
some_file (w ∷ ws) r = first_built w ws r

-- ---- the state

-- the questions are all answered with yes
record Passed (p : Plan) (table_length memory_length : ℕ) : Type 0 where
  files : file_refusal [] (or_defaults p.files) ≡ None
  text : good_text p.text ≡ true
  room : fits (planned p) table_length memory_length ≡ true
  log : log_fits p.count p.log ≡ true

all_passed : (p : Plan) (t m : ℕ) → build_refusal p t m ≡ None → Passed p t m
unfolding build_refusal
all_passed p t m = go (file_refusal [] (or_defaults p.files)) refl (good_text p.text) refl (fits (planned p) t m) refl (log_fits p.count p.log) refl
  where
    go : (o : Option Refusal) → file_refusal [] (or_defaults p.files) ≡ o → (x : Bool) → good_text p.text ≡ x → (y : Bool) → fits (planned p) t m ≡ y
        → (z : Bool) → log_fits p.count p.log ≡ z → or_then o (cond x (cond y (cond z None (Some UnusableDatalog)) (Some FilesBeyondRoom)) (Some UnusableTypeText)) ≡ None → Passed p t m
    go None a true b true c true d e = record { files = a; text = b; room = c; log = d }
    go None a true b true c false d e = no_some (sym e)
    go None a true b false c z d e = no_some (sym e)
    go None a false b y c z d e = no_some (sym e)
    go (Some n) a x b y c z d e = no_some (sym e)

module _ (p : Plan) (table : List FileRecord) (memory : List ℕ) (none-refused : build_refusal p (length table) (length memory) ≡ None) where
  a : Passed p (length table) (length memory)
  a = all_passed p (length table) (length memory) none-refused

  abbrev new_table : List FileRecord
  new_table = planned p ++ drop (length (planned p)) table

  abbrev new_memory : List ℕ
  new_memory = put memory 0 (replicate (total (planned p)) 0)

  text_fits : length p.text ≤ 11
  unfolding good_text
  text_fits = leb-true (length p.text) 11 (let t : good_text p.text ≡ true = a.text in search and_l)

  log_holds : holds p.count p.log ≡ true
  unfolding log_fits
  log_holds = let t : log_fits p.count p.log ≡ true = a.log in search and_l

  built_within : within (slc_of p) new_table p.log ≡ true
  unfolding within slc_of
  built_within =
      let l : length (planned p) ≤ length new_table = simp length-append (omega arith) in
      let front : (leb (length (planned p)) (length new_table) && leb (length p.text) 11) ≡ true = and_both (le-leb _ _ l) (le-leb _ _ text_fits) in
      and_both front log_holds

  -- the state that is built
  abbrev pub built_state : State
  built_state = record { records = planned p; memory = new_memory; type_text = p.text; datalog = entries p.count p.log }

  pub built_state_lem : state_of (slc_of p) new_table new_memory p.log ≡ built_state
  unfolding held_state slc_of fitted
  built_state_lem =
      held_is (slc_of p) new_table new_memory p.log built_within
      ∙ (λ i. record {
        records = take_at (planned p) (drop (length (planned p)) table) (length (planned p)) refl i;
        memory = new_memory;
        type_text = text_back i;
        datalog = entries p.count p.log;
      })
    where
      text_back : take (length p.text) (take 11 p.text ++ replicate (11 - length p.text) 0) ≡ p.text
      text_back =
          let e : take 11 p.text ≡ p.text = take_all 11 p.text text_fits in
          rw e (take_at p.text (replicate (11 - length p.text) 0) (length p.text) refl)

  table_good : good_table (planned p) ≡ true
  unfolding good_table planned records_of fits
  table_good =
      let f : Fine 0 0 (planned p) = fine (or_defaults p.files) a.files 256 0 0 in
      let one : (ltb 0 (length (planned p)) && every good_record (planned p)) ≡ true = and_both (lt-ltb 0 _ (some_file p.files a.files)) f.good in
      let two : (ltb 0 (length (planned p)) && every good_record (planned p) && ascend 0 (planned p)) ≡ true = and_both one f.ascending in
      let three : (ltb 0 (length (planned p)) && every good_record (planned p) && ascend 0 (planned p) && end_to_end 0 (planned p)) ≡ true = and_both two f.ends in
      let r : fits (planned p) (length table) (length memory) ≡ true = a.room in
      let most : leb (total (planned p)) 65535 ≡ true = search (and_l, and_r) in
      and_both three most

  memory_fits : leb (total (planned p)) (length new_memory) ≡ true
  unfolding fits
  memory_fits =
      let r : fits (planned p) (length table) (length memory) ≡ true = a.room in
      let l : total (planned p) ≤ length memory = leb-true (total (planned p)) (length memory) (search (and_l, and_r)) in
      let e : length {A = ℕ} (replicate (total (planned p)) 0) ≡ total (planned p) = length-replicate (total (planned p)) 0 in
      let n : length new_memory ≡ length memory = put_length memory 0 (replicate (total (planned p)) 0) (omega arith) in
      le-leb (total (planned p)) (length new_memory) (omega arith)

  -- the table stays as long as it was
  pub table_length_lem : length new_table ≡ length table
  unfolding fits
  table_length_lem =
      let r : fits (planned p) (length table) (length memory) ≡ true = a.room in
      let l : length (planned p) ≤ length table = leb-true (length (planned p)) (length table) (search (and_l, and_r)) in
      simp (length-append, length-drop) (omega arith)

  pub built_sound : sound built_state ≡ true
  unfolding sound log_fits
  built_sound =
      let two : (good_table (planned p) && leb (total (planned p)) (length new_memory)) ≡ true = and_both table_good memory_fits in
      let three : (good_table (planned p) && leb (total (planned p)) (length new_memory) && good_text p.text) ≡ true = and_both two a.text in
      let l : log_fits p.count p.log ≡ true = a.log in
      let log_good : good_log (entries p.count p.log) ≡ true = search and_r in
      and_both three log_good

-- a processor that is built is sound
pub new_sound : (p : Plan) (table : List FileRecord) (memory : List ℕ) → (new_of p table memory).built.made ≡ Ok tt
    → sound (state_of (new_of p table memory).built.slc (new_of p table memory).table (new_of p table memory).memory p.log) ≡ true
unfolding new_of
new_sound p table memory = go (build_refusal p (length table) (length memory)) refl
  where
    go : (o : Option Refusal) → build_refusal p (length table) (length memory) ≡ o → (raise o p table memory).built.made ≡ Ok tt
        → sound (state_of (raise o p table memory).built.slc (raise o p table memory).table (raise o p table memory).memory p.log) ≡ true
    go None e m = subst (λ (s : State). sound s ≡ true) (sym (built_state_lem p table memory e)) (built_sound p table memory e)
    go (Some n) e m = let z : ◌≡◌ {A = ℕ} 0 1 = cc in absurd (omega arith)
