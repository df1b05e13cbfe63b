-- Laws of the texts of the status codes.
use Rattle.std.specs.Prelude.{Option, None, Some, Result, Ok, Err}
use Prim.Native.Nat.{ℕ, min, ◌≤◌, ◌<◌}
use mathlib.Core.Path.{◌≡◌, refl, ap, sym, subst, ◌∙◌}
use mathlib.Core.Bool.{Bool, true, false, cond, ◌&&◌}
use mathlib.Core.List.{List, [], ◌∷◌}
use native.Mathlib.Nat.{zero-add}
use native.Mathlib.Omega.{arith}
use borrow.Author.Tests.{lt-ltb, le-ltb, ne_eqb}
use mir.Facts.{and_yes}
use lib.Dec.{T, eqb, ltb, leb, leb→le}
use lib.ListN.{length, take, length-take}
use lib.Seq.{take_all}
use Rattle.std.proofs.lemmas.List.{take_min}
use Rattle.base.proofs.Put.{puts_wrote}
use Rattle.base.proofs.Unmatched.{NoneOf, Unlike, unlike}
use Rattle.base.specs.Put.{Wrote, Puts}
use Rattle.base.specs.declared.refusal.Refusal.{Refusal}
use Rattle.base.specs.declared.refusal.Refusal.TheVariants.{ShortOutput}
use Rattle.reply_status_text.specs.Texts.{texts, text_in, text_of, Tells}

-- ---- a text written, where there is room
module _ (text l : List ℕ) where
  pub no_room : length l < 96 → Tells (Some text) l (Err ShortOutput) l
  no_room h = let t : ltb (length l) 96 ≡ true = lt-ltb (length l) 96 h in record { answer = rw t; memory = rw t }

  pub told : {n : ℕ} {m : List ℕ} → 96 ≤ length l → Wrote l 0 text n m → Tells (Some text) l (Ok (Some n)) m
  told {n} {m} h w =
      let t : ltb (length l) 96 ≡ false = le-ltb (length l) 96 h in
      record { answer = rw t (ap (λ (k : ℕ). Ok (Some k)) (w.end ∙ zero-add (length text))); memory = rw t w.now }

-- of a text the first 96 bytes
pub say_told : (text l : List ℕ) {k n : ℕ} {m : List ℕ} → 96 ≤ length l → k ≡ min (length text) 96 → Puts l 0 (take k text) n m → Tells (Some (take 96 text)) l (Ok (Some n)) m
say_told text l {k} {n} {m} h e w =
    let g : length (take 96 text) ≡ min 96 (length text) = length-take 96 text in
    let f : k ≡ min 96 (length text) = omega arith in
    told (take 96 text) l h (puts_wrote (subst (λ (t : List ℕ). Puts l 0 t n m) (ap (λ (i : ℕ). take i text) f ∙ take_min 96 text) w) (omega arith))

-- ---- the text in a row, of at most 96 bytes
abbrev pub short : List (ℕ × List ℕ) → Bool
short [] = true
short (row ∷ rows) = leb (length row.1) 96 && short rows

short_text : (rows : List (ℕ × List ℕ)) → T (short rows) → (c : ℕ) (t : List ℕ) → text_in rows c ≡ Some t → length t ≤ 96
short_text [] h c t e = let z : ⊥ = cc in absurd z
short_text (row ∷ rows) h c t e = go (eqb row.0 c) (λ f. short_text rows both.1 c t f) e
  where
    both : T (leb (length row.1) 96) × T (short rows)
    both = and_yes (leb (length row.1) 96) (short rows) h

    go : (b : Bool) → (text_in rows c ≡ Some t → length t ≤ 96) → cond b (Some row.1) (text_in rows c) ≡ Some t → length t ≤ 96
    go true more f = let g : row.1 ≡ t = cc in omega (arith, leb→le (length row.1) 96 both.0, ap length g)
    go false more f = more f

-- what is said of a number with rows of short texts
module _ (rows : List (ℕ × List ℕ)) (h : T (short rows)) (c : ℕ) {l m : List ℕ} {r : Result (Option ℕ) Refusal} where
  pub row_told : (t : List ℕ) → Some t ≡ text_in rows c → Tells (Some (take 96 t)) l r m → Tells (text_in rows c) l r m
  row_told t e w = rw (← e) (subst (λ (x : List ℕ). Tells (Some x) l r m) (take_all 96 t (short_text rows h c t (sym e))) w)

-- ---- the text of a code
pub code_told : (code : ℕ) (l m : List ℕ) (r : Result (Option ℕ) Refusal) (status : ℕ) (text : List ℕ) → status ≡ code → text_in texts code ≡ Some text → Tells (Some text) l r m → Tells (text_of status) l r m
unfolding text_of
code_told code l m r status text e f w = subst (λ (t : Option (List ℕ)). Tells t l r m) (sym (ap (text_in texts) e ∙ f)) w

-- ---- a status that is none of the codes has no text
abbrev code_of : ℕ × List ℕ → ℕ
code_of row = row.0

none_passes : (rows : List (ℕ × List ℕ)) (c : ℕ) → Unlike code_of rows c → text_in rows c ≡ None
none_passes [] c h = refl
none_passes (row ∷ rows) c h = rw (ne_eqb row.0 c (λ (e : row.0 ≡ c). h.0 (sym e))) (none_passes rows c h.1)

pub no_text : (l : List ℕ) (c : ℕ) → NoneOf code_of (Unit {0}) texts c → Tells (text_of c) l (Ok None) l
unfolding text_of
no_text l c h = rw (none_passes texts c (unlike code_of texts c h)) (record { answer = refl; memory = refl })
