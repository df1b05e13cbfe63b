-- The type text: its largest byte tells whether each is below 128.
use Rattle.std.specs.List.{list_all}
use Prim.Native.Nat.{ℕ, zero, suc, ◌+◌, ◌≤◌, ◌<◌, max}
use mathlib.Core.Path.{◌≡◌, refl, sym, ap, ◌∙◌}
use mathlib.Core.Bool.{Bool, true, false, ◌&&◌}
use mathlib.Core.List.{List, [], ◌∷◌, map}
use native.Mathlib.Omega.{arith}
use borrow.Author.Tests.{ltb-true, lt-ltb, le-leb, lt-leb}
use lib.Dec.{leb, ltb}
use lib.ListN.{length, get_or, take, drop, length-take, length-map, drop_of_length-le}
use lib.Seq.{length-take-le}
use Rattle.base.proofs.Parts.{drop_next}
use Rattle.processor_spec.specs.State.{every, good_text}
use Rattle.processor_spec.proofs.Tests.{and_l, and_r, and_both}
use Rattle.processor_soundness.specs.Tests.{largest_from, largest, small}

every_is : {A : Type 0} (p : A → Bool) (s : List A) → every p s ≡ list_all p s
unfolding every
every_is p [] = refl
every_is p (x ∷ s) = ap (λ (b : Bool). p x && b) (every_is p s)

pub unmapped : {X Y : Type 0} (f : X → Y) (l : List X) (n : ℕ) → length (map f l) ≡ n → length l ≡ n
unmapped f l n e = sym (length-map l f) ∙ e

-- ---- the largest byte
module _ (n : ℕ) (s : List ℕ) (i : ℕ) where
  pub largest_next : i < length s → largest_from (max n (get_or s i 0)) (drop (i + 1) s) ≡ largest_from n (drop i s)
  unfolding largest_from
  largest_next h = rw (drop_next s i h)

  pub largest_last : length s ≤ i → largest_from n (drop i s) ≡ largest s → n ≡ largest s
  unfolding largest_from
  largest_last h e = rw (drop_of_length-le s h) at e

pub largest_begins : (s : List ℕ) → largest_from 0 (drop 0 s) ≡ largest s
unfolding largest
largest_begins s = refl

both_small : (n b : ℕ) → ltb (max n b) 128 ≡ true → (ltb n 128 ≡ true) × (ltb b 128 ≡ true)
both_small n b t =
    let l : max n b < 128 = ltb-true (max n b) 128 t in
    (lt-ltb n 128 (omega arith), lt-ltb b 128 (omega arith))

from_small : (n : ℕ) (s : List ℕ) → ltb (largest_from n s) 128 ≡ true → (ltb n 128 ≡ true) × (small s ≡ true)
unfolding largest_from small
from_small n [] t = (t, refl)
from_small n (b ∷ s) t =
    let r : (ltb (max n b) 128 ≡ true) × (small s ≡ true) = from_small (max n b) s t in
    let p : (ltb n 128 ≡ true) × (ltb b 128 ≡ true) = both_small n b r.0 in
    (p.0, and_both p.1 r.1)

small_part : (k : ℕ) (s : List ℕ) → small s ≡ true → small (take k s) ≡ true
unfolding small
small_part zero s t = refl
small_part (suc k) [] t = refl
small_part (suc k) (b ∷ s) t = and_both {a = ltb b 128} (and_l (ltb b 128) _ t) (small_part k s (and_r (ltb b 128) _ t))

-- ---- at most 11 bytes, each below 128
module _ (text : List ℕ) (len : ℕ) where
  pub text_long : 11 < len → false ≡ (leb len 11 && good_text (take len text))
  text_long h = rw (lt-leb len 11 h)

  short : len ≤ 11 → (leb len 11 && good_text (take len text)) ≡ small (take len text)
  unfolding good_text small
  short h =
      let l : length (take len text) ≤ 11 = simp length-take (omega arith) in
      rw (le-leb len 11 h, le-leb (length (take len text)) 11 l, every_is)

  pub text_good : (most : ℕ) → len ≤ 11 → most ≡ largest text → most < 128 → true ≡ (leb len 11 && good_text (take len text))
  unfolding largest
  text_good most h e l =
      let t : ltb (largest_from 0 text) 128 ≡ true = rw (← e) (lt-ltb most 128 l) in
      sym (short h ∙ small_part len text (from_small 0 text t).1)

  pub text_parts : (r : Bool) → len ≤ 11 → r ≡ small (take len text) → r ≡ (leb len 11 && good_text (take len text))
  text_parts r h e = e ∙ sym (short h)

  pub prefix_length : length text ≡ 11 → len ≤ 11 → len ≡ length (take len text)
  prefix_length e h = sym (length-take-le len text (omega arith))
