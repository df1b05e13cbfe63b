-- Laws of the questions' table, and what is said of a number.
use Rattle.std.specs.Prelude.{Option, Some, Result, Contains, slice_index_or}
use Prim.Native.Nat.{ℕ, zero, suc, ◌≤◌, ◌<◌}
use mathlib.Core.Path.{◌≡◌, refl, subst}
use mathlib.Core.Bool.{Bool, true, false, cond, ◌&&◌}
use mathlib.Core.List.{List, [], ◌∷◌}
use native.Mathlib.Omega.{arith}
use borrow.Author.Tests.{eqb-true, eq-eqb, ne_eqb}
use mir.Facts.{and_yes}
use lib.Dec.{T, eqb, ltb, leb, ltb→lt, leb→le}
use lib.ListN.{length, take}
use lib.Seq.{take_all}
use Rattle.base.specs.declared.refusal.Refusal.{Refusal}
use Rattle.reply_status_text.specs.Texts.{text_in, Tells}
use Rattle.question_text.specs.Questions.{questions, question_of}

-- rows whose numbers ascend from k on, each with a text of 1 to 96 bytes
abbrev pub right : ℕ → List (ℕ × List ℕ) → Bool
right k [] = true
right k (row ∷ rows) = (leb k row.0 && (ltb 0 (length row.1) && leb (length row.1) 96)) && right (suc row.0) rows

pub all_right : T (right 1 questions)
all_right = tt

-- a number and a text as they stand in such rows
pub record Right (k n : ℕ) (t : List ℕ) : Type 0 where
  pub from : k ≤ n
  pub some : 0 < length t
  pub short : length t ≤ 96

module _ (k : ℕ) (row : ℕ × List ℕ) (rows : List (ℕ × List ℕ)) (h : T (right k (row ∷ rows))) where
  both : T (leb k row.0 && (ltb 0 (length row.1) && leb (length row.1) 96)) × T (right (suc row.0) rows)
  both = and_yes (leb k row.0 && (ltb 0 (length row.1) && leb (length row.1) 96)) (right (suc row.0) rows) h

  parts : T (leb k row.0) × T (ltb 0 (length row.1) && leb (length row.1) 96)
  parts = and_yes (leb k row.0) (ltb 0 (length row.1) && leb (length row.1) 96) both.0

  lengths : T (ltb 0 (length row.1)) × T (leb (length row.1) 96)
  lengths = and_yes (ltb 0 (length row.1)) (leb (length row.1) 96) parts.1

  first : Right k row.0 row.1
  first = record { from = leb→le k row.0 parts.0; some = ltb→lt 0 (length row.1) lengths.0; short = leb→le (length row.1) 96 lengths.1 }

in_row : (k : ℕ) (rows : List (ℕ × List ℕ)) → T (right k rows) → (n : ℕ) (t : List ℕ) → Some t ≡ text_in rows n → Right k n t
in_row k [] h n t e = let z : ⊥ = cc in absurd z
in_row k (row ∷ rows) h n t e = go (eqb row.0 n) refl (in_row (suc row.0) rows (both k row rows h).1 n t) e
  where
    go : (b : Bool) → eqb row.0 n ≡ b → (Some t ≡ text_in rows n → Right (suc row.0) n t) → Some t ≡ cond b (Some row.1) (text_in rows n) → Right k n t
    go true f more g =
        let x : row.1 ≡ t = cc in
        subst (λ (s : List ℕ). Right k n s) x (subst (λ (i : ℕ). Right k i row.1) (eqb-true row.0 n f) (first k row rows h))
    go false f more g =
        let w : Right (suc row.0) n t = more g in
        record { from = omega (arith, w.from, (first k row rows h).from); some = w.some; short = w.short }

-- so each number stands once
own_row : (k : ℕ) (rows : List (ℕ × List ℕ)) → T (right k rows) → (row : ℕ × List ℕ) (i : ℕ) → i < length rows → slice_index_or rows i row ≡ row → (k ≤ row.0) × (text_in rows row.0 ≡ Some row.1)
own_row k [] h row i l e = absurd (omega arith)
own_row k (x ∷ rows) h row zero l e =
    (subst (λ (y : ℕ × List ℕ). k ≤ y.0) e (first k x rows h).from, rw (e, eq-eqb row.0 row.0 refl) refl)
own_row k (x ∷ rows) h row (suc i) l e =
    let w : (suc x.0 ≤ row.0) × (text_in rows row.0 ≡ Some row.1) = own_row (suc x.0) rows (both k x rows h).1 row i (omega arith) e in
    (omega (arith, w.0, (first k x rows h).from), rw (ne_eqb x.0 row.0 (λ (f : x.0 ≡ row.0). omega (arith, w.0))) w.1)

pub own_text : (row : ℕ × List ℕ) → Contains questions row → question_of row.0 ≡ Some row.1
unfolding question_of
own_text row c = (own_row 1 questions all_right row c.0 c.1 c.2).1

pub question_right : (n : ℕ) (t : List ℕ) → Some t ≡ question_of n → Right 1 n t
unfolding question_of
question_right n t e = in_row 1 questions all_right n t e

pub question_told : {l m : List ℕ} {r : Result (Option ℕ) Refusal} (n : ℕ) (t : List ℕ) → Some t ≡ question_of n → Tells (Some (take 96 t)) l r m → Tells (question_of n) l r m
question_told {l} {m} {r} n t e w = rw (← e) (subst (λ (x : List ℕ). Tells (Some x) l r m) (take_all 96 t (question_right n t e).short) w)
