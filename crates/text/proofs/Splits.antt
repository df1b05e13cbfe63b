-- Laws of the parts of a text.
use Prim.Native.Nat.{ℕ, zero, suc, ◌+◌, ◌-◌, ◌≤◌, ◌<◌, min}
use mathlib.Core.Path.{◌≡◌, refl, ap, sym, ◌∙◌}
use mathlib.Core.List.{List, [], ◌∷◌}
use mathlib.Core.Bool.{Bool, true, false, cond, ◌&&◌}
use native.Mathlib.Omega.{arith}
use lib.Dec.{eqb}
use lib.Pointwise.{pointwise}
use lib.ListN.{length, take, drop, get_or, drop_of_length-le}
use lib.Seq.{drop-drop, length-take-le}
use borrow.Author.Tests.{eq-eqb, ne_eqb}
use Rattle.base.proofs.Parts.{drop_next}
use Rattle.text.specs.Line.{before, cut, part_at, same}
use Rattle.base.specs.Chars.{spelled}

-- ---- the first part, and the others
before_first : (b : ℕ) (ws : List (List ℕ)) → get_or (before b ws) 0 [] ≡ b ∷ get_or ws 0 []
unfolding before
before_first b [] = refl
before_first b (w ∷ ws) = refl

before_others : (b k : ℕ) (ws : List (List ℕ)) → get_or (before b ws) (suc k) [] ≡ get_or ws (suc k) []
unfolding before
before_others b k [] = refl
before_others b k (w ∷ ws) = refl

before_length : (b : ℕ) (ws : List (List ℕ)) → 0 < length ws → length (before b ws) ≡ length ws
unfolding before
before_length b [] h = absurd (omega arith)
before_length b (w ∷ ws) h = refl

module _ (by : ℕ) where
  -- the part that starts at i, by the byte there
  module _ (s : List ℕ) (i : ℕ) where
    part_none : length s ≤ i → part_at by 0 (drop i s) ≡ []
    unfolding cut
    part_none h = rw (drop_of_length-le s h)

    part_stop : i < length s → get_or s i 0 ≡ by → part_at by 0 (drop i s) ≡ []
    unfolding cut
    part_stop h e = rw (drop_next s i h, eq-eqb _ _ e)

    part_byte : i < length s → (get_or s i 0 ≡ by → ⊥) → part_at by 0 (drop i s) ≡ get_or s i 0 ∷ part_at by 0 (drop (i + 1) s)
    unfolding cut
    part_byte h e = rw (drop_next s i h, ne_eqb _ _ e) (before_first _ _)

  -- the end of the part that starts at `at`, where the bytes before i are its own
  module _ (s : List ℕ) (at i : ℕ) (a : at ≤ i) (e : (i - at) + length (part_at by 0 (drop i s)) ≡ length (part_at by 0 (drop at s))) where
    pub end_stop : i < length s → get_or s i 0 ≡ by → i ≡ at + length (part_at by 0 (drop at s))
    end_stop h f = omega (arith, ap length (part_stop s i h f))

    pub end_none : length s ≤ i → i ≡ at + length (part_at by 0 (drop at s))
    end_none h = omega (arith, ap length (part_none s i h))

    pub end_turn : i < length s → (get_or s i 0 ≡ by → ⊥) → (i + 1 - at) + length (part_at by 0 (drop (i + 1) s)) ≡ length (part_at by 0 (drop at s))
    end_turn h f = omega (arith, ap length (part_byte s i h f))

  -- the first part is the start of the text, and the others are those of what stands behind its end
  first_is : (l : List ℕ) → take (length (part_at by 0 l)) l ≡ part_at by 0 l
  unfolding cut
  first_is [] = refl
  first_is (b ∷ l) = go (eqb b by) (first_is l)
    where
      go : (t : Bool) → take (length (part_at by 0 l)) l ≡ part_at by 0 l → take (length (get_or (cond t ([] ∷ cut by l) (before b (cut by l))) 0 [])) (b ∷ l) ≡ get_or (cond t ([] ∷ cut by l) (before b (cut by l))) 0 []
      go true e = refl
      go false e = rw (before_first b (cut by l)) (ap (λ (x : List ℕ). b ∷ x) e)

  none_behind : (k : ℕ) → [] ≡ part_at by k []
  unfolding cut
  none_behind zero = refl
  none_behind (suc k) = refl

  others_are : (k : ℕ) (l : List ℕ) → part_at by k (drop (suc (length (part_at by 0 l))) l) ≡ part_at by (suc k) l
  unfolding cut
  others_are k [] = sym (none_behind k)
  others_are k (b ∷ l) = go (eqb b by) (others_are k l)
    where
      go : (t : Bool) → part_at by k (drop (suc (length (part_at by 0 l))) l) ≡ part_at by (suc k) l → part_at by k (drop (suc (length (get_or (cond t ([] ∷ cut by l) (before b (cut by l))) 0 []))) (b ∷ l)) ≡ get_or (cond t ([] ∷ cut by l) (before b (cut by l))) (suc k) []
      go true e = refl
      go false e = rw (before_first b (cut by l), before_others b k (cut by l)) e

  -- where the next part starts
  module _ (s : List ℕ) (at e : ℕ) (h : e ≡ at + length (part_at by 0 (drop at s))) where
    pub next_some : (k : ℕ) → part_at by k (drop (e + 1) s) ≡ part_at by (suc k) (drop at s)
    next_some k =
        let n : e + 1 ≡ at + suc (length (part_at by 0 (drop at s))) = omega arith in
        ap (λ (x : ℕ). part_at by k (drop x s)) n ∙ ap (part_at by k) (sym (drop-drop (suc (length (part_at by 0 (drop at s)))) at s)) ∙ others_are k (drop at s)

    pub next_none : length s ≤ e → (k : ℕ) → part_at by k (drop e s) ≡ part_at by (suc k) (drop at s)
    next_none g k =
        let n : length s ≤ e + 1 = omega arith in
        ap (part_at by k) (drop_of_length-le s g ∙ sym (drop_of_length-le s n)) ∙ next_some k

    pub part_is : {w : List ℕ} → part_at by 0 (drop at s) ≡ w → take (e - at) (drop at s) ≡ w
    part_is g =
        let n : e - at ≡ length (part_at by 0 (drop at s)) = omega arith in
        ap (λ (x : ℕ). take x (drop at s)) n ∙ first_is (drop at s) ∙ g

  -- ---- how many there are
  some_part : (s : List ℕ) → 0 < length (cut by s)
  unfolding cut
  some_part [] = omega arith
  some_part (b ∷ s) = go (eqb b by) (some_part s)
    where
      go : (t : Bool) → 0 < length (cut by s) → 0 < length (cond t ([] ∷ cut by s) (before b (cut by s)))
      go true h = omega arith
      go false h = rw (before_length b (cut by s) h) h

  count_cons : (b : ℕ) (s : List ℕ) → length (cut by (b ∷ s)) ≡ cond (eqb b by) 1 0 + length (cut by s)
  unfolding cut
  count_cons b s = go (eqb b by)
    where
      go : (t : Bool) → length (cond t ([] ∷ cut by s) (before b (cut by s))) ≡ cond t 1 0 + length (cut by s)
      go true = omega arith
      go false = omega (arith, before_length b (cut by s) (some_part s))

  module _ (s : List ℕ) (i n : ℕ) (e : n + length (cut by (drop i s)) ≡ 1 + length (cut by s)) where
    pub count_turn : (d : ℕ) → i < length s → d ≡ cond (eqb (get_or s i 0) by) 1 0 → n + d + length (cut by (drop (i + 1) s)) ≡ 1 + length (cut by s)
    count_turn d h f =
        let g : length (cut by (drop i s)) ≡ d + length (cut by (drop (i + 1) s)) = ap (λ (x : List ℕ). length (cut by x)) (drop_next s i h) ∙ count_cons (get_or s i 0) (drop (i + 1) s) ∙ ap (λ (k : ℕ). k + length (cut by (drop (i + 1) s))) (sym f) in
        omega arith

    pub count_done : length s ≤ i → n ≡ length (cut by s)
    unfolding cut
    count_done h =
        let g : length (cut by (drop i s)) ≡ 1 = ap (λ (x : List ℕ). length (cut by x)) (drop_of_length-le s h) in
        omega arith

-- ---- so many bytes are there
pub counted : (n k : ℕ) (s : List ℕ) → k ≡ min n (length s) → (k ≤ length s) × (k ≡ length (take k s)) × (k ≡ min n (length s))
counted n k s e =
    let h : k ≤ length s = omega arith in
    (h, sym (length-take-le k s h), e)

-- ---- the same bytes
pub same_is : (s t : List ℕ) → pointwise eqb s t ≡ same s t
unfolding spelled
same_is [] [] = refl
same_is [] (b ∷ t) = refl
same_is (a ∷ s) [] = refl
same_is (a ∷ s) (b ∷ t) = ap (λ (x : Bool). eqb a b && x) (same_is s t)
