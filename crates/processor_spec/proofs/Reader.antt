-- The parameter reader by positions: what stands from `at` on.
use Rattle.std.specs.Prelude.{None, Some}
use Prim.Native.Nat.{ℕ, suc, ◌+◌, ◌≤◌, ◌<◌}
use mathlib.Core.Path.{◌≡◌, refl, ap, ◌∙◌}
use mathlib.Core.List.{List, [], ◌∷◌, ◌++◌}
use native.Mathlib.Nat.{add-zero}
use native.Mathlib.Numerals.{add-one, add-two}
use native.Mathlib.Omega.{arith}
use borrow.Author.Tests.{lt-leb, le-leb, eq-eqb, ne_eqb}
use lib.ListN.{length, get_or, drop, length-drop, length-append}
use lib.Seq.{drop-cons, take_at, drop_at}
use Rattle.base.specs.Numbers.{number}
use Rattle.base.proofs.Parts.{drop_next}
use Rattle.parser_spec.specs.Parts.{then}
use Rattle.processor_spec.specs.Params.{several, number_of, address}

-- so many bytes that stand in front are read
pub several_back : (k : ℕ) (bs rest : List ℕ) → length bs ≡ k → several k (bs ++ rest) ≡ Some (bs, rest)
unfolding several
several_back k bs rest e =
    let l : k ≤ length (bs ++ rest) = simp length-append (omega arith) in
    rw (le-leb k (length (bs ++ rest)) l, take_at bs rest k e, drop_at bs rest k e)

pub byte_back : (b : ℕ) (rest : List ℕ) → number_of 1 (b ∷ rest) ≡ Some (b, rest)
unfolding then number
byte_back b rest = rw (several_back 1 (b ∷ []) rest refl, add-zero b)

several_none : (k : ℕ) (l : List ℕ) → length l < k → several k l ≡ None
unfolding several
several_none k l h = rw (lt-leb k (length l) h)

number_none : (k : ℕ) (l : List ℕ) → length l < k → number_of k l ≡ None
unfolding then
number_none k l h = rw (several_none k l h)

word_front : (a b : ℕ) (l : List ℕ) → number_of 2 (a ∷ b ∷ l) ≡ Some (number (a ∷ b ∷ []), l)
unfolding then
word_front a b l = rw (several_back 2 (a ∷ b ∷ []) l refl)

module _ (s : List ℕ) (at : ℕ) where
  pub byte_there : at < length s → number_of 1 (drop at s) ≡ Some (get_or s at 0, drop (at + 1) s)
  byte_there h = ap (number_of 1) (drop_next s at h) ∙ byte_back (get_or s at 0) (drop (at + 1) s)

  pub byte_none : length s ≤ at → number_of 1 (drop at s) ≡ None
  byte_none h = number_none 1 (drop at s) (simp length-drop (omega arith))

  pub word_there : at + 2 ≤ length s → number_of 2 (drop at s) ≡ Some (number (get_or s at 0 ∷ get_or s (at + 1) 0 ∷ []), drop (at + 2) s)
  word_there h =
      let a : at < length s = omega arith in
      let b : suc at < length s = omega arith in
      let e : drop at s ≡ get_or s at 0 ∷ get_or s (at + 1) 0 ∷ drop (at + 2) s = rw (add-one, add-two, drop-cons s at 0 a, drop-cons s (suc at) 0 b) in
      ap (number_of 2) e ∙ word_front (get_or s at 0) (get_or s (at + 1) 0) (drop (at + 2) s)

  pub word_none : length s < at + 2 → number_of 2 (drop at s) ≡ None
  word_none h = number_none 2 (drop at s) (simp length-drop (omega arith))

module _ (s : List ℕ) (at : ℕ) where
  pub address_none : length s ≤ at → address (drop at s) ≡ None
  unfolding address then
  address_none h = rw (byte_none s at h)

  pub address_there : at < length s → (get_or s at 0 ≡ 255 → ⊥) → address (drop at s) ≡ Some (get_or s at 0, drop (at + 1) s)
  unfolding address then
  address_there h ne = rw (byte_there s at h, ne_eqb (get_or s at 0) 255 ne)

  pub address_long : at + 3 ≤ length s → get_or s at 0 ≡ 255 → address (drop at s) ≡ Some (number (get_or s (at + 1) 0 ∷ get_or s (at + 2) 0 ∷ []), drop (at + 3) s)
  unfolding address then
  address_long h e =
      let l : at < length s = omega arith in
      let w : number_of 2 (drop (at + 1) s) ≡ Some (number (get_or s (at + 1) 0 ∷ get_or s (at + 1 + 1) 0 ∷ []), drop (at + 1 + 2) s) = word_there s (at + 1) (omega arith) in
      let p : at + 1 + 1 ≡ at + 2 = omega arith in
      let q : at + 1 + 2 ≡ at + 3 = omega arith in
      rw (byte_there s at l, eq-eqb (get_or s at 0) 255 e, ← p, ← q) w

  pub address_cut : at < length s → get_or s at 0 ≡ 255 → length s < at + 3 → address (drop at s) ≡ None
  unfolding address then
  address_cut h e k = rw (byte_there s at h, eq-eqb (get_or s at 0) 255 e) (word_none s (at + 1) (omega arith))
