-- The masked write word by word: what is left of the work, on the memory as it is now, gives what the whole gives.
use Prim.Native.Nat.{ℕ, zero, suc, ◌+◌, ◌-◌, ◌/◌, ◌%◌, ◌≤◌, ◌<◌, min}
use mathlib.Core.Path.{◌≡◌, refl, sym, ap, ◌∙◌}
use mathlib.Core.Bool.{Bool, true, false}
use mathlib.Core.List.{List, [], ◌∷◌}
use native.Mathlib.Nat.{add-zero, mod-eq_of_lt}
use native.Mathlib.Numerals.{add-one, add-two}
use native.Mathlib.Omega.{arith}
use borrow.Author.Tests.{leb-true, leb-false}
use lib.Dec.{leb}
use lib.ListN.{length, get_or, take, drop, set, length-take, length-drop, drop_of_length-le}
use lib.Seq.{drop-cons, length-take-le, take_all, take-nil}
use Rattle.base.specs.Masks.{mix}
use Rattle.base.specs.Numbers.{number}
use Rattle.base.specs.Put.{put}
use Rattle.base.proofs.Parts.{drop_next}
use Rattle.base.proofs.Put.{put_none}
use Rattle.processor_spec.specs.Masked.{masked, masked_at}
use Rattle.processor_spec.proofs.Masked.{wrote, wrote_none, wrote_odd, wrote_word}
use Rattle.processor_masked_write.specs.Written.{written}

pub begins : (m : List ℕ) (at mask : ℕ) (values : List ℕ) → written m (at + 0) mask (drop 0 values) ≡ written m at mask values
begins m at mask values = rw add-zero

module _ (m₀ m : List ℕ) (at i mask : ℕ) (values : List ℕ) where
  pub goes : (j a b w : ℕ) → j ≡ i + 2 → i + 2 ≤ length values → at + length values ≤ length m
      → a ≡ number (get_or m (at + i) 0 ∷ get_or m (at + i + 1) 0 ∷ []) → b ≡ number (get_or values i 0 ∷ get_or values (i + 1) 0 ∷ []) → w ≡ mix 0xFFFF mask a b → w < 65536
      → written m (at + i) mask (drop i values) ≡ written m₀ at mask values
      → written (set (set m (at + i) (w % 256)) (at + i + 1) (w / 256)) (at + j) mask (drop j values) ≡ written m₀ at mask values
  unfolding written wrote
  goes j a b w ej l h ea eb ew lw e =
      let v : drop i values ≡ get_or values i 0 ∷ get_or values (i + 1) 0 ∷ drop (i + 2) values =
      let x : i < length values = omega arith in
      let y : suc i < length values = omega arith in
      rw (add-one, add-two, drop-cons values i 0 x, drop-cons values (suc i) 0 y) in
      let k : at + i + 2 + length (drop (i + 2) values) ≤ length m = simp length-drop (omega arith) in
      let q : w ≡ mix 0xFFFF mask (number (get_or m (at + i) 0 ∷ get_or m (at + i + 1) 0 ∷ [])) (number (get_or values i 0 ∷ get_or values (i + 1) 0 ∷ [])) = rw (ew, ea, eb) in
      let b256 : w / 256 % 256 ≡ w / 256 = mod-eq_of_lt (omega arith) in
      let s : at + (i + 2) ≡ at + i + 2 = omega arith in
      let t : wrote m (at + i) mask (get_or values i 0 ∷ get_or values (i + 1) 0 ∷ drop (i + 2) values) ≡ wrote (set (set m (at + i) (w % 256)) (at + i + 1) (w / 256)) (at + i + 2) mask (drop (i + 2) values) =
      wrote_word m (at + i) mask (get_or values i 0) (get_or values (i + 1) 0) (drop (i + 2) values) k (set (set m (at + i) (w % 256)) (at + i + 1) (w / 256)) (rw (← b256, q)) in
      rw (ej, s) (sym t ∙ ap (wrote m (at + i) mask) (sym v) ∙ e)

  -- an odd last byte, or nothing
  pub ends_odd : (w j : ℕ) → j ≡ i → i + 1 ≡ length values → at + length values ≤ length m → w ≡ mix 0xFF (mask % 256) (get_or m (at + i) 0) (get_or values i 0)
      → written m (at + j) mask (drop j values) ≡ written m₀ at mask values → set m (at + i) w ≡ written m₀ at mask values
  unfolding written wrote
  ends_odd w j ej l k ew e =
      let v : drop i values ≡ get_or values i 0 ∷ [] =
      let z : length values ≤ i + 1 = omega arith in
      drop_next values i (omega arith) ∙ ap (λ (s : List ℕ). get_or values i 0 ∷ s) (drop_of_length-le values z) in
      let o : wrote m (at + i) mask (get_or values i 0 ∷ []) ≡ set m (at + i) (mix 0xFF (mask % 256) (get_or m (at + i) 0) (get_or values i 0)) = wrote_odd m (at + i) mask (get_or values i 0) (omega arith) in
      ap (set m (at + i)) ew ∙ sym o ∙ ap (wrote m (at + i) mask) (sym v) ∙ ap (λ (n : ℕ). wrote m (at + n) mask (drop n values)) (sym ej) ∙ e

  pub ends_even : length values ≤ i → written m (at + i) mask (drop i values) ≡ written m₀ at mask values → m ≡ written m₀ at mask values
  unfolding written wrote
  ends_even h e = sym (wrote_none m (at + i) mask) ∙ ap (wrote m (at + i) mask) (sym (drop_of_length-le values h)) ∙ e

-- values for which there is no old byte are dropped
masked_held : (mask : ℕ) (olds vs : List ℕ) (n : ℕ) → length olds ≤ n → masked mask olds (take n vs) ≡ masked mask olds vs
unfolding masked
masked_held mask [] vs n h = refl
masked_held mask (o ∷ os) vs zero h = absurd (omega arith)
masked_held mask (o ∷ os) [] (suc n) h = refl
masked_held mask (o ∷ []) (v ∷ vs) (suc n) h = refl
masked_held mask (o ∷ o' ∷ os) (v ∷ vs) (suc zero) h = absurd (omega arith)
masked_held mask (o ∷ o' ∷ os) (v ∷ []) (suc (suc n)) h = refl
masked_held mask (o ∷ o' ∷ os) (v ∷ v' ∷ vs) (suc (suc n)) h = rw (masked_held mask os vs n (omega arith))

-- a prefix is as long as the part that it is cut from, or as it was to be
take_least : (a n : ℕ) (x : List ℕ) → n ≡ min a (length x) → take n x ≡ take a x
take_least a n x e = go (leb a (length x)) refl
  where
    go : (b : Bool) → leb a (length x) ≡ b → take n x ≡ take a x
    go true t = let p : n ≡ a = let l : a ≤ length x = leb-true a (length x) t in omega arith in rw p
    go false t =
        let l : length x < a = leb-false a (length x) t in
        let p : length x ≤ n = omega arith in
        let q : length x ≤ a = omega arith in
        take_all n x p ∙ sym (take_all a x q)

module _ (m : List ℕ) (at mask : ℕ) (values : List ℕ) where
  pub written_past : length m ≤ at → m ≡ written m at mask values
  unfolding written wrote masked_at masked
  written_past h =
      let e : take (length values) (drop at m) ≡ [] = ap (take (length values)) (drop_of_length-le m h) ∙ take-nil (length values) in
      rw e (sym (put_none m at))

  module _ (n : ℕ) (e : n ≡ min (length values) (length m - at)) where
    pub part_length : n ≡ length (take n values)
    part_length = sym (length-take-le n values (omega arith))

    pub part_fits : at < length m → at + length (take n values) ≤ length m
    part_fits h = rw (length-take n values) (omega arith)

    pub written_part : (m' : List ℕ) → m' ≡ written m at mask (take n values) → m' ≡ written m at mask values
    unfolding written masked_at
    written_part m' f =
        let l : n ≡ min (length values) (length (drop at m)) = e ∙ ap (min (length values)) (sym (length-drop at m)) in
        let olds : take (length (take n values)) (drop at m) ≡ take (length values) (drop at m) = ap (λ (k : ℕ). take k (drop at m)) (sym part_length) ∙ take_least (length values) n (drop at m) l in
        let k : length (take (length values) (drop at m)) ≤ n = simp length-take (omega (arith, l)) in
        f ∙ ap (put m at) (ap (λ (x : List ℕ). masked mask x (take n values)) olds ∙ masked_held mask (take (length values) (drop at m)) values n k)
