-- The masked write word by word: what is left of the work, on the memory as it is now, gives what the whole gives.
use Prim.Native.Nat.{ℕ, suc, ◌+◌, ◌/◌, ◌%◌, ◌≤◌, ◌<◌}
use mathlib.Core.Path.{◌≡◌, sym, ap, ap₂, ◌∙◌}
use mathlib.Core.List.{List, [], ◌∷◌}
use native.Mathlib.Numerals.{add-one, add-two}
use native.Mathlib.Omega.{arith}
use lib.ListN.{length, get_or, take, drop, set, length-set}
use lib.Seq.{drop-cons}
use Rattle.base.specs.Masks.{mix}
use Rattle.base.specs.Numbers.{low_first, number}
use Rattle.base.specs.Put.{put}
use Rattle.base.proofs.Put.{put_none, put_one, put_cons, put_more, put_behind}
use Rattle.processor_spec.specs.Masked.{masked, masked_at}

-- the memory that a masked write leaves
unfoldable pub wrote : List ℕ → ℕ → ℕ → List ℕ → List ℕ
wrote m at mask values = put m at (masked_at m at mask values)

pub wrote_none : (m : List ℕ) (at mask : ℕ) → wrote m at mask [] ≡ m
unfolding wrote masked_at masked
wrote_none m at mask = put_none m at

module _ (m : List ℕ) (at mask v : ℕ) where
  -- an odd last byte
  pub wrote_odd : at < length m → wrote m at mask (v ∷ []) ≡ set m at (mix 0xFF (mask % 256) (get_or m at 0) v)
  unfolding wrote masked_at masked
  wrote_odd h = rw (drop-cons m at 0 h) (sym (put_one m at (mix 0xFF (mask % 256) (get_or m at 0) v) h))

  -- a word, and then the rest
  module _ (v' : ℕ) (vs : List ℕ) (h : at + 2 + length vs ≤ length m) where
    abbrev pub new_word : ℕ
    new_word = mix 0xFFFF mask (number (get_or m at 0 ∷ get_or m (at + 1) 0 ∷ [])) (number (v ∷ v' ∷ []))

    bytes_there : drop at m ≡ get_or m at 0 ∷ get_or m (at + 1) 0 ∷ drop (at + 2) m
    bytes_there =
        let a : at < length m = omega arith in
        let b : suc at < length m = omega arith in
        rw (add-one, add-two, drop-cons m at 0 a, drop-cons m (suc at) 0 b)

    stored : set (set m at (new_word % 256)) (at + 1) (new_word / 256 % 256) ≡ put m at (low_first 2 new_word)
    unfolding low_first
    stored =
        let l : at + 1 < length (set m at (new_word % 256)) = simp length-set (omega arith) in
        put_one (set m at (new_word % 256)) (at + 1) (new_word / 256 % 256) l ∙ put_cons m at (new_word % 256) (new_word / 256 % 256 ∷ []) (omega arith)

    pub wrote_word : (m' : List ℕ) → m' ≡ set (set m at (new_word % 256)) (at + 1) (new_word / 256 % 256) → wrote m at mask (v ∷ v' ∷ vs) ≡ wrote m' (at + 2) mask vs
    unfolding wrote masked_at masked low_first
    wrote_word m' e =
        let p : put m at (low_first 2 new_word) ≡ m' = sym (e ∙ stored) in
        let behind : drop (at + 2) m ≡ drop (at + 2) m' = sym (put_behind m at (low_first 2 new_word) (omega arith)) ∙ ap (drop (at + 2)) p in
        rw bytes_there
        (sym (put_more m at (low_first 2 new_word) (omega arith) (masked mask (take (length vs) (drop (at + 2) m)) vs))
        ∙ ap₂ (λ (x y : List ℕ). put x (at + 2) (masked mask (take (length vs) y) vs)) p behind)
