-- The file table of a sound state: a file's bytes lie in the data memory, and those of two files lie apart.
use Rattle.std.specs.Prelude.{Some}
use Prim.Native.Nat.{ℕ, ◌+◌, ◌≤◌}
use mathlib.Core.Path.{◌≡◌, refl, sym, ap, subst, ◌∙◌}
use mathlib.Core.List.{List, [], ◌∷◌, map}
use mathlib.Core.Bool.{Bool, true, false, cond}
use mathlib.Core.Logic.{◌⊎◌, inl, inr}
use native.Mathlib.Omega.{arith}
use borrow.Author.Tests.{eqb-true}
use lib.Dec.{eqb}
use Rattle.parser_spec.proofs.Held.{no_some}
use Rattle.processor_spec.specs.declared.FileRecord.{FileRecord}
use Rattle.processor_spec.specs.State.{end_to_end, total}
use Rattle.processor_spec.specs.Files.{shape, find}
use Rattle.processor_spec.proofs.Tests.{and_l, and_r}

-- A table that lies end to end is given by its numbers, codes and lengths.
pub same_table : (at : ℕ) (rs qs : List FileRecord) → end_to_end at rs ≡ true → end_to_end at qs ≡ true → map shape rs ≡ map shape qs → rs ≡ qs
unfolding end_to_end shape
same_table at [] [] h k e = refl
same_table at [] (q ∷ qs) h k e = cc
same_table at (r ∷ rs) [] h k e = cc
same_table at (r ∷ rs) (q ∷ qs) h k e =
    let p : shape r ≡ shape q = cc in
    let es : map shape rs ≡ map shape qs = cc in
    let sr : r.start ≡ at = eqb-true r.start at (and_l _ _ h) in
    let sq : q.start ≡ at = eqb-true q.start at (and_l _ _ k) in
    let el : r.length ≡ q.length = ap (λ (x : ℕ × ℕ × ℕ). x.2) p in
    let er : r ≡ q = λ i. record { number = (p i).0; code = (p i).1; start = (sr ∙ sym sq) i; length = el i } in
    let k' : end_to_end (at + r.length) qs ≡ true = rw el (and_r (eqb q.start at) _ k) in
    let ers : rs ≡ qs = same_table (at + r.length) rs qs (and_r (eqb r.start at) _ h) k' es in
    cc

-- Where a file of a table that lies end to end from `at` on lies.
pub record Lies (at end : ℕ) (r : FileRecord) : Type 0 where
  pub from : at ≤ r.start
  pub upto : r.start + r.length ≤ end

pub lies : (at n : ℕ) (rs : List FileRecord) (r : FileRecord) → end_to_end at rs ≡ true → find n rs ≡ Some r → Lies at (at + total rs) r
unfolding end_to_end find total
lies at n [] r h e = no_some e
lies at n (x ∷ xs) r h e = go (eqb x.number n) e (λ f. lies (at + x.length) n xs r (and_r (eqb x.start at) _ h) f)
  where
    sx : x.start ≡ at
    sx = eqb-true x.start at (and_l _ _ h)

    go : (b : Bool) → cond b (Some x) (find n xs) ≡ Some r → (find n xs ≡ Some r → Lies (at + x.length) (at + x.length + total xs) r) → Lies at (at + (x.length + total xs)) r
    go true e ih =
        let er : x ≡ r = cc in
        subst (λ (q : FileRecord). Lies at (at + (x.length + total xs)) q) er (record { from = omega (arith, sx); upto = omega (arith, sx) })
    go false e ih = let w : Lies (at + x.length) (at + x.length + total xs) r = ih e in record { from = omega (arith, w.from); upto = omega (arith, w.upto) }

abbrev pub Apart : FileRecord → FileRecord → Type 0
Apart r q = (r.start + r.length ≤ q.start) ⊎ (q.start + q.length ≤ r.start)

pub apart : (at n k : ℕ) (rs : List FileRecord) (r q : FileRecord) → end_to_end at rs ≡ true → find n rs ≡ Some r → find k rs ≡ Some q → (n ≡ k → ⊥) → Apart r q
unfolding end_to_end find
apart at n k [] r q h e f ne = no_some e
apart at n k (x ∷ xs) r q h e f ne =
    go (eqb x.number n) refl (eqb x.number k) refl e f (λ e' f'. apart (at + x.length) n k xs r q hs e' f' ne)
  where
    sx : x.start ≡ at
    sx = eqb-true x.start at (and_l _ _ h)

    hs : end_to_end (at + x.length) xs ≡ true
    hs = and_r (eqb x.start at) _ h

    go : (b : Bool) → eqb x.number n ≡ b → (c : Bool) → eqb x.number k ≡ c
        → cond b (Some x) (find n xs) ≡ Some r → cond c (Some x) (find k xs) ≡ Some q
        → (find n xs ≡ Some r → find k xs ≡ Some q → Apart r q) → Apart r q
    go true eb true ec e f ih = absurd (ne (sym (eqb-true _ _ eb) ∙ eqb-true _ _ ec))
    go true eb false ec e f ih =
        let er : x ≡ r = cc in
        let w : Lies (at + x.length) (at + x.length + total xs) q = lies (at + x.length) k xs q hs f in
        inl (rw (← er) (omega (arith, sx, w.from)))
    go false eb true ec e f ih =
        let eq : x ≡ q = cc in
        let w : Lies (at + x.length) (at + x.length + total xs) r = lies (at + x.length) n xs r hs e in
        inr (rw (← eq) (omega (arith, sx, w.from)))
    go false eb false ec e f ih = ih e f
