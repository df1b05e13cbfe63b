-- Laws of swapped pairs.
use Prim.Native.Nat.{ℕ, suc, ◌+◌, ◌-◌, ◌≤◌, ◌<◌}
use mathlib.Core.Path.{◌≡◌, refl, ap, sym, ◌∙◌}
use mathlib.Core.List.{List, [], ◌∷◌}
use native.Mathlib.Omega.{arith}
use Rattle.std.specs.List.{swap}
use Rattle.std.proofs.lemmas.List.Edits.{swap_is}
use lib.ListN.{length, drop, get_or, set, length-set, length-drop}
use lib.Seq.{drop-set-lt}
use Rattle.base.specs.Put.{put}
use Rattle.base.proofs.Parts.{drop_next}
use Rattle.base.proofs.Put.{put_cons, put_whole, put_same}
use Rattle.element_text.specs.Text.{swap_pairs}

pub swap_length : (s : List ℕ) → length (swap_pairs s) ≡ length s
unfolding swap_pairs
swap_length [] = refl
swap_length (a ∷ []) = refl
swap_length (a ∷ b ∷ s) = ap (λ (n : ℕ). suc (suc n)) (swap_length s)

-- what is left of the work, done on the bytes as they are now, gives the whole
pub swap_start : (s : List ℕ) → put s 0 (swap_pairs (drop 0 s)) ≡ swap_pairs s
swap_start s = put_whole s (swap_pairs s) (swap_length s)

module _ (s₀ s : List ℕ) (i : ℕ) (inv : put s i (swap_pairs (drop i s)) ≡ swap_pairs s₀) where
  two : i + 1 < length s → swap_pairs (drop i s) ≡ get_or s (i + 1) 0 ∷ get_or s i 0 ∷ swap_pairs (drop (i + 2) s)
  unfolding swap_pairs
  two h =
      let a : i < length s = omega arith in
      let e : i + 1 + 1 ≡ i + 2 = omega arith in
      rw (drop_next s i a, drop_next s (i + 1) h, e)

  turn_lem : i + 1 < length s → put (set (set s i (get_or s (i + 1) 0)) (i + 1) (get_or s i 0)) (i + 2) (swap_pairs (drop (i + 2) (set (set s i (get_or s (i + 1) 0)) (i + 1) (get_or s i 0)))) ≡ swap_pairs s₀
  turn_lem h =
      let n : i + 1 < length (set s i (get_or s (i + 1) 0)) = simp length-set (omega arith) in
      let e : i + 1 + 1 ≡ i + 2 = omega arith in
      let d : drop (i + 2) (set (set s i (get_or s (i + 1) 0)) (i + 1) (get_or s i 0)) ≡ drop (i + 2) s = drop-set-lt (i + 2) (set s i (get_or s (i + 1) 0)) (i + 1) (get_or s i 0) (omega arith) ∙ drop-set-lt (i + 2) s i (get_or s (i + 1) 0) (omega arith) in
      rw d (ap (λ (k : ℕ). put (set (set s i (get_or s (i + 1) 0)) (i + 1) (get_or s i 0)) k (swap_pairs (drop (i + 2) s))) (sym e)
      ∙ put_cons (set s i (get_or s (i + 1) 0)) (i + 1) (get_or s i 0) (swap_pairs (drop (i + 2) s)) n
      ∙ put_cons s i (get_or s (i + 1) 0) (get_or s i 0 ∷ swap_pairs (drop (i + 2) s)) (omega arith)
      ∙ ap (put s i) (sym (two (omega arith)))
      ∙ inv)

  pub swap_turn : {k : ℕ} → k ≡ i + 2 → i + 1 < length s → put (swap s i (i + 1)) k (swap_pairs (drop k (swap s i (i + 1)))) ≡ swap_pairs s₀
  swap_turn {k} e h =
      let t : set (set s i (get_or s (i + 1) 0)) (i + 1) (get_or s i 0) ≡ swap s i (i + 1) = swap_is s i (i + 1) 0 (omega arith) h in
      rw (sym t, e) (turn_lem h)

  last : (l : List ℕ) → length l ≤ 1 → swap_pairs l ≡ l
  unfolding swap_pairs
  last [] h = refl
  last (a ∷ []) h = refl
  last (a ∷ b ∷ l) h = absurd (omega arith)

  pub swap_end : i ≤ length s → length s - i ≤ 1 → s ≡ swap_pairs s₀
  swap_end g h =
      let n : length (drop i s) ≤ 1 = simp length-drop (omega arith) in
      sym (put_same s i g) ∙ ap (put s i) (sym (last (drop i s) n)) ∙ inv
