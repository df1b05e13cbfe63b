-- However the input is cut into pieces, what is printed is what the definition of the whole program says.
use Prim.Native.Nat.{ℕ, ◌+◌, ◌≤◌, ◌<◌}
use mathlib.Core.Bool.{Bool, true, false, cond}
use mathlib.Core.Path.{◌≡◌, refl, ap, ap₂, sym, ◌∙◌}
use mathlib.Core.List.{List, [], ◌∷◌, ◌++◌, append_assoc, append-nil}
use native.Mathlib.Nat.{zero-add}
use native.Mathlib.Omega.{arith}
use lib.Dec.{leb, eqb}
use lib.ListN.{length, take, drop, take-append-drop}
use lib.Seq.{take_all, take_at, length-take-le}
use borrow.Author.Tests.{leb-true, leb-false}
use Rattle.base.specs.Put.{put, Wrote}
use Rattle.text.specs.Line.{before}
use Rattle.tags_line.specs.Lines.{lines, asked, answer, answers, tags}
use Rattle.tags_stream.specs.Pieces.{ended, rest, last, held, kept_by, Calls, finished, fed, EveryCut}
use Rattle.tags_stream.specs.declared.Line.{Line}
use Rattle.tags_stream.proofs.Long.{asked_long, long_same}
use Rattle.tags_stream.proofs.Onward.{kept_keeping, finish_wrote}

-- all that is printed for what is still to come, behind a line so far
abbrev from : List ℕ → List ℕ → List ℕ
from l s = answers (ended l s) ++ last (rest l s)

-- ---- one piece behind the other
answers_append : (a b : List (List ℕ)) → answers (a ++ b) ≡ answers a ++ answers b
unfolding answers
answers_append [] b = refl
answers_append (l ∷ a) b = ap (λ (x : List ℕ). answer (asked l) ++ x) (answers_append a b) ∙ sym (append_assoc (answer (asked l)) (answers a) (answers b))

abbrev Split : List ℕ → List ℕ → List ℕ → Type 0
Split l s t = (ended l (s ++ t) ≡ ended l s ++ ended (rest l s) t) × (rest l (s ++ t) ≡ rest (rest l s) t)

split : (l s t : List ℕ) → Split l s t
unfolding ended rest
split l [] t = (refl, refl)
split l (b ∷ s) t = go (eqb b 10) (split [] s t) (split (l ++ (b ∷ [])) s t)
  where
    go : (y : Bool) → Split [] s t → Split (l ++ (b ∷ [])) s t
        → (cond y (l ∷ ended [] (s ++ t)) (ended (l ++ (b ∷ [])) (s ++ t)) ≡ cond y (l ∷ ended [] s) (ended (l ++ (b ∷ [])) s) ++ ended (cond y (rest [] s) (rest (l ++ (b ∷ [])) s)) t)
        × (cond y (rest [] (s ++ t)) (rest (l ++ (b ∷ [])) (s ++ t)) ≡ rest (cond y (rest [] s) (rest (l ++ (b ∷ [])) s)) t)
    go true one two = (ap (λ (x : List (List ℕ)). l ∷ x) one.0, one.1)
    go false one two = two

pub rest_append : (l s t : List ℕ) → rest l (s ++ t) ≡ rest (rest l s) t
rest_append l s t = (split l s t).1

from_append : (l s t : List ℕ) → from l (s ++ t) ≡ answers (ended l s) ++ from (rest l s) t
from_append l s t =
    ap₂ (λ (x y : List ℕ). x ++ y) (ap answers (split l s t).0 ∙ answers_append (ended l s) (ended (rest l s) t)) (ap last (rest_append l s t))
    ∙ append_assoc (answers (ended l s)) (answers (ended (rest l s) t)) (last (rest (rest l s) t))

-- ---- what is kept is enough
module _ (l : List ℕ) where
  short : length l ≤ 256 → held l ≡ l
  unfolding held
  short h = take_all 256 l h

  long_held : 256 < length l → 255 < length (held l)
  unfolding held
  long_held h = rw (length-take-le 256 l (omega arith)) (omega arith)

  whole : held l ++ drop 256 l ≡ l
  unfolding held
  whole = take-append-drop 256 l

last_long : (l t : List ℕ) → 255 < length l → last (l ++ t) ≡ last l
unfolding last answers ended rest
last_long [] t h = absurd (omega arith)
last_long (b ∷ l) t h = ap answer (asked_long (b ∷ l) h t)

last_held : (l : List ℕ) → last (held l) ≡ last l
last_held l = go (leb (length l) 256) refl
  where
    go : (y : Bool) → leb (length l) 256 ≡ y → last (held l) ≡ last l
    go true e = ap last (short l (leb-true (length l) 256 e))
    go false e = sym (last_long (held l) (drop 256 l) (long_held l (leb-false (length l) 256 e))) ∙ ap last (whole l)

from_long : (l : List ℕ) → 255 < length l → (t s : List ℕ) → from (l ++ t) s ≡ from l s
from_long l h t s =
    let e = long_same l h t s in
    ap₂ (λ (x y : List ℕ). x ++ y) e.0 (sym (last_held (rest (l ++ t) s)) ∙ ap last e.1 ∙ last_held (rest l s))

from_held : (l s : List ℕ) → from (held l) s ≡ from l s
from_held l s = go (leb (length l) 256) refl
  where
    go : (y : Bool) → leb (length l) 256 ≡ y → from (held l) s ≡ from l s
    go true e = ap (λ (x : List ℕ). from x s) (short l (leb-true (length l) 256 e))
    go false e = sym (from_long (held l) (long_held l (leb-false (length l) 256 e)) (drop 256 l) s) ∙ ap (λ (x : List ℕ). from x s) (whole l)

pub rest_held : (l s : List ℕ) → held (rest (held l) s) ≡ held (rest l s)
rest_held l s = go (leb (length l) 256) refl
  where
    go : (y : Bool) → leb (length l) 256 ≡ y → held (rest (held l) s) ≡ held (rest l s)
    go true e = ap (λ (x : List ℕ). held (rest x s)) (short l (leb-true (length l) 256 e))
    go false e =
        sym (long_same (held l) (long_held l (leb-false (length l) 256 e)) (drop 256 l) s).1 ∙ ap (λ (x : List ℕ). held (rest x s)) (whole l)

-- ---- from the start on, these are the lines of the input
-- the line that only the end of the input ends
abbrev only : List ℕ → List (List ℕ)
only [] = []
only (b ∷ l) = (b ∷ l) ∷ []

-- what the first of some lines has so far, in front of it
abbrev behind : List ℕ → List (List ℕ) → List (List ℕ)
behind l [] = only l
behind l (w ∷ ws) = (l ++ w) ∷ ws

behind_none : (ls : List (List ℕ)) → behind [] ls ≡ ls
behind_none [] = refl
behind_none (w ∷ ws) = refl

only_byte : (l : List ℕ) (b : ℕ) → only (l ++ (b ∷ [])) ≡ (l ++ (b ∷ [])) ∷ []
only_byte [] b = refl
only_byte (c ∷ l) b = refl

behind_byte : (l : List ℕ) (b : ℕ) (ls : List (List ℕ)) → behind (l ++ (b ∷ [])) ls ≡ behind l (before b ls)
unfolding before
behind_byte l b [] = only_byte l b
behind_byte l b (w ∷ ws) = ap (λ (x : List ℕ). x ∷ ws) (append_assoc l (b ∷ []) w)

all_lines : (l s : List ℕ) → ended l s ++ only (rest l s) ≡ behind l (lines s)
unfolding ended rest lines
all_lines l [] = refl
all_lines l (b ∷ s) = go (eqb b 10) (all_lines [] s) (all_lines (l ++ (b ∷ [])) s)
  where
    go : (y : Bool) → ended [] s ++ only (rest [] s) ≡ behind [] (lines s) → ended (l ++ (b ∷ [])) s ++ only (rest (l ++ (b ∷ [])) s) ≡ behind (l ++ (b ∷ [])) (lines s)
        → cond y (l ∷ ended [] s) (ended (l ++ (b ∷ [])) s) ++ only (cond y (rest [] s) (rest (l ++ (b ∷ [])) s)) ≡ behind l (cond y ([] ∷ lines s) (before b (lines s)))
    go true one two = ap₂ (λ (x : List ℕ) (y : List (List ℕ)). x ∷ y) (sym (append-nil l)) (one ∙ behind_none (lines s))
    go false one two = two ∙ behind_byte l b (lines s)

last_only : (l : List ℕ) → last l ≡ answers (only l)
unfolding last answers
last_only [] = refl
last_only (b ∷ l) = sym (append-nil (answer (asked (b ∷ l))))

from_start : (s : List ℕ) → from [] s ≡ tags s
from_start s =
    ap (λ (x : List ℕ). answers (ended [] s) ++ x) (last_only (rest [] s))
    ∙ sym (answers_append (ended [] s) (only (rest [] s)))
    ∙ ap answers (all_lines [] s ∙ behind_none (lines s))

-- ---- the calls
wrote_front : {l m bs : List ℕ} {r : ℕ} → Wrote l 0 bs r m → take r m ≡ bs
unfolding put
wrote_front {l} {m} {bs} {r} w = ap (take r) w.now ∙ take_at bs (drop (0 + length bs) l) r (sym (w.end ∙ zero-add (length bs)))

calls : {line : Line} {input p : List ℕ} → Calls line input p → p ≡ from (kept_by line) input
unfolding ended rest answers
calls (finished {line} {out} {out'} {r} h f) = wrote_front (finish_wrote h f)
calls (fed {line} {out} {out'} {input} {p} {r} piece behind e f t) =
    let l = kept_by line in
    let a = take r.taken piece in
    let b = drop r.taken piece ++ behind in
    let k : kept_by r.line ≡ held (rest l a) = ap kept_by f.keeps ∙ kept_keeping (rest l a) in
    let w : a ++ b ≡ input = sym (append_assoc a (drop r.taken piece) behind) ∙ ap (λ (x : List ℕ). x ++ behind) (take-append-drop r.taken piece) ∙ sym e in
    ap₂ (λ (x y : List ℕ). x ++ y) (wrote_front f.prints) (calls t ∙ ap (λ (x : List ℕ). from x b) k ∙ from_held (rest l a) b)
    ∙ sym (from_append l a b)
    ∙ ap (from l) w

pub every_cut : EveryCut
unfolding held
every_cut input printed t = calls t ∙ ap (λ (l : List ℕ). from l input) (kept_keeping []) ∙ from_start input
