-- A part of a memory over which bytes were laid.
use Prim.Native.Nat.{ℕ, zero, suc, ◌+◌, ◌-◌, ◌≤◌}
use mathlib.Core.Path.{◌≡◌, sym, ap, ◌∙◌}
use mathlib.Core.List.{List, [], ◌∷◌, ◌++◌, append_assoc}
use mathlib.Core.Logic.{◌⊎◌, inl, inr}
use native.Mathlib.Nat.{zero-add, suc-add}
use native.Mathlib.Omega.{arith}
use lib.ListN.{length, take, drop, length-append, length-take, length-drop}
use lib.Seq.{take-append-le, take-append-add, take-take, drop-append-le, drop-drop, length-take-le, take-nil}
use Rattle.base.specs.Put.{put}
use Rattle.base.proofs.Put.{put_behind}

pub take_drop : {A : Type 0} (n k : ℕ) (l : List A) → take k (drop n l) ≡ drop n (take (n + k) l)
take_drop zero k l = rw zero-add
take_drop (suc n) k [] = rw (suc-add, take-nil k)
take_drop (suc n) k (x ∷ l) = rw suc-add (take_drop n k l)

-- a part of a part
pub part_of : (m : List ℕ) (start len o n : ℕ) → o + n ≤ len → take n (drop (start + o) m) ≡ take n (drop o (take len (drop start m)))
part_of m start len o n h =
    ap (take n) (sym (drop-drop o start m)) ∙ take_drop o n (drop start m)
    ∙ ap (drop o) (sym (take-take (o + n) len (drop start m) h)) ∙ sym (take_drop o n (take len (drop start m)))

module _ (m : List ℕ) (at : ℕ) (bs : List ℕ) (fits : at + length bs ≤ length m) where
  -- a part that lies apart from them
  pub apart_stays : (start len : ℕ) → (start + len ≤ at) ⊎ (at + length bs ≤ start) → take len (drop start (put m at bs)) ≡ take len (drop start m)
  unfolding put
  apart_stays start len (inl h) =
      let e : length (take at m) ≡ at = length-take-le at m (omega arith) in
      let g : start + len ≤ length (take at m) = omega arith in
      take_drop start len (put m at bs) ∙ ap (drop start) (take-append-le (start + len) (take at m) (bs ++ drop (at + length bs) m) g ∙ take-take (start + len) at m h)
      ∙ sym (take_drop start len m)
  apart_stays start len (inr h) =
      let e : at + length bs + (start - (at + length bs)) ≡ start = omega arith in
      let behind : (l : List ℕ) → drop start l ≡ drop (start - (at + length bs)) (drop (at + length bs) l) =
      λ l. ap (λ (k : ℕ). drop k l) (sym e) ∙ sym (drop-drop (start - (at + length bs)) (at + length bs) l) in
      ap (take len) (behind (put m at bs) ∙ ap (drop (start - (at + length bs))) (put_behind m at bs fits) ∙ sym (behind m))

-- a part that holds them
pub inside_put : (m : List ℕ) (start len o : ℕ) (bs : List ℕ) → o + length bs ≤ len → start + len ≤ length m
    → take len (drop start (put m (start + o) bs)) ≡ put (take len (drop start m)) o bs
unfolding put
inside_put m start len o bs h fits =
    let d : List ℕ = drop start m in
    let k : ℕ = length bs in
    let r : ℕ = len - (o + k) in
    let ld : length d ≡ length m - start = length-drop start m in
    let front : drop start (take (start + o) m) ≡ take o d = sym (take_drop start o m) in
    let lf : length (take (start + o) m) ≡ start + o = length-take-le (start + o) m (omega arith) in
    let cut : drop start (put m (start + o) bs) ≡ take o d ++ (bs ++ drop (start + o + k) m) =
    drop-append-le start (take (start + o) m) (bs ++ drop (start + o + k) m) (omega arith) ∙ ap (λ (l : List ℕ). l ++ (bs ++ drop (start + o + k) m)) front in
    let lo : length (take o d ++ bs) ≡ o + k = simp (length-append, length-take) (omega arith) in
    let e : len ≡ length (take o d ++ bs) + r = omega arith in
    let tail : drop (start + o + k) m ≡ drop (o + k) d = let a : start + o + k ≡ start + (o + k) = omega arith in ap (λ (j : ℕ). drop j m) a ∙ sym (drop-drop (o + k) start m) in
    let back : drop (o + k) (take len d) ≡ take r (drop (o + k) d) = let a : o + k + r ≡ len = omega arith in ap (λ (j : ℕ). drop (o + k) (take j d)) (sym a) ∙ sym (take_drop (o + k) r d) in
    let short : take o (take len d) ≡ take o d = take-take o len d (omega arith) in
    ap (take len) (cut ∙ sym (append_assoc (take o d) bs (drop (start + o + k) m)))
    ∙ ap (λ (j : ℕ). take j ((take o d ++ bs) ++ drop (start + o + k) m)) e
    ∙ take-append-add (take o d ++ bs) (drop (start + o + k) m) r
    ∙ append_assoc (take o d) bs (take r (drop (start + o + k) m))
    ∙ rw (short, back, tail)
