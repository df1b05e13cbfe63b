-- Laws of the text of A and ST.
use Prim.Native.Nat.{ℕ, suc, ◌+◌, ◌-◌, ◌%◌, ◌≤◌, ◌<◌, min}
use mathlib.Core.Path.{◌≡◌, refl, ap, ap₂, sym, ◌∙◌}
use mathlib.Core.List.{List, [], ◌∷◌, ◌++◌, append_assoc, append-nil}
use mathlib.Core.Bool.{Bool, true, false}
use native.Mathlib.Nat.{zero-add}
use native.Mathlib.Omega.{arith}
use borrow.Author.Tests.{lt-ltb, le-ltb, leb-true, leb-false}
use lib.Dec.{leb, ltb}
use lib.ListN.{length, take, drop, get_or, replicate, length-append, length-take, length-replicate, drop_of_length-le}
use lib.Seq.{length-take-le, take_all, take_at, drop_at}
use Rattle.base.specs.Numbers.{low_first}
use Rattle.base.specs.Put.{put, Puts}
use Rattle.base.proofs.Numbers.{low_length, low_zero}
use Rattle.base.proofs.Parts.{drop_replicate}
use Rattle.base.proofs.Put.{puts_both, put_first, put_rest, put_length}
use Rattle.std.specs.Prelude.{Ok, Err}
use Rattle.base.specs.declared.refusal.Refusal.TheVariants.{ShortOutput}
use Rattle.element_text.specs.Text.{swap_pairs, padded_swap, fitted, ascii_text, string_text, written_of, out_of}
use Rattle.element_text.proofs.Swap.{swap_length}

-- the bytes of an A text, one by one
pub ascii_is : (s : List ℕ) (a b : ℕ) → a ≡ get_or s 1 32 → b ≡ get_or s 0 32 → (a ∷ b ∷ []) ≡ ascii_text s
unfolding ascii_text swap_pairs fitted
ascii_is [] a b e f = ap₂ (λ (x y : ℕ). x ∷ y ∷ []) e f
ascii_is (x ∷ []) a b e f = ap₂ (λ (x y : ℕ). x ∷ y ∷ []) e f
ascii_is (x ∷ y ∷ s) a b e f =
    let n : 2 - suc (suc (length s)) ≡ 0 = omega arith in
    rw n (ap₂ (λ (x y : ℕ). x ∷ y ∷ []) e f)

-- ---- lengths
fitted_length : (n fill : ℕ) (s : List ℕ) → length (fitted n fill s) ≡ n
unfolding fitted
fitted_length n fill s = rw (length-append, length-take, length-replicate) (omega arith)

pub ascii_length : (s : List ℕ) → length (ascii_text s) ≡ 2
unfolding ascii_text
ascii_length s = swap_length (fitted 2 0x20 s) ∙ fitted_length 2 0x20 s

pub string_length : (s : List ℕ) → length (string_text s) ≡ 84
unfolding string_text
string_length s = simp (length-append, low_length, swap_length, fitted_length 82 0 s)

-- ---- `slc_string_swap`
pub padded_length : (s : List ℕ) → length (padded_swap s) ≡ length s + length s % 2
unfolding padded_swap
padded_length s = swap_length _ ∙ rw (length-append, length-replicate)

module _ (s l : List ℕ) where
  module _ {l₁ l₂ : List ℕ} {r₁ r₂ : ℕ} (h : length s + length s % 2 ≤ length l) (a : Puts l 0 s r₁ l₁) (b : Puts l₁ (length s) (low_first (length s % 2) 0) r₂ l₂) where
    written : l₂ ≡ put l 0 (s ++ replicate (length s % 2) 0)
    written =
        let n : length (s ++ low_first (length s % 2) 0) ≡ length s + length s % 2 = rw (low_zero (length s % 2), length-append, length-replicate) in
        let b₀ : Puts l₁ (0 + length s) (low_first (length s % 2) 0) r₂ l₂ = rw zero-add b in
        puts_both 0 a b₀ (omega arith) ∙ rw (low_zero (length s % 2))

    whole : length (s ++ replicate (length s % 2) 0) ≡ length s + length s % 2
    whole = rw (length-append, length-replicate)

    pub kept_length : length l₂ ≡ length l
    kept_length = ap length written ∙ put_length l 0 (s ++ replicate (length s % 2) 0) (omega (arith, whole))

    pub swap_done : (part : List ℕ) → part ≡ swap_pairs (take (length s + length s % 2) l₂) → (Ok (length s + length s % 2) ≡ written_of (padded_swap s) l) × (part ++ drop (length s + length s % 2) l₂ ≡ out_of (padded_swap s) l)
    unfolding padded_swap put
    swap_done part e =
        let n : length (padded_swap s) ≡ length s + length s % 2 = padded_length s in
        let t : ltb (length l) (length (padded_swap s)) ≡ false = le-ltb (length l) (length (padded_swap s)) (rw n h) in
        let x : part ≡ padded_swap s = e ∙ ap swap_pairs (ap (take (length s + length s % 2)) written ∙ put_first l (s ++ replicate (length s % 2) 0) (length s + length s % 2) whole h) in
        let y : drop (length s + length s % 2) l₂ ≡ drop (length s + length s % 2) l = ap (drop (length s + length s % 2)) written ∙ put_rest l (s ++ replicate (length s % 2) 0) (length s + length s % 2) whole h in
        (rw t (ap Ok (sym n)), rw t (rw (x, y) (ap (λ (k : ℕ). padded_swap s ++ drop k l) (sym (zero-add (length (padded_swap s)) ∙ n)))))

  pub no_room : length l < length s + length s % 2 → (Err ShortOutput ≡ written_of (padded_swap s) l) × (l ≡ out_of (padded_swap s) l)
  no_room h = let t : ltb (length l) (length (padded_swap s)) ≡ true = lt-ltb (length l) (length (padded_swap s)) (rw (padded_length s) h) in (rw t, rw t)

-- ---- `encode_pccc_string`
module _ (s : List ℕ) (n : ℕ) (e : n ≡ min (length s) 82) where
  pub cut_length : length (take n s) ≡ n
  cut_length = length-take-le n s (omega arith)

  cut : take n s ≡ take 82 s
  cut = go (leb (length s) 82) refl
    where
      go : (t : Bool) → leb (length s) 82 ≡ t → take n s ≡ take 82 s
      go true h = let k : length s ≤ 82 = leb-true (length s) 82 h in take_all n s (omega arith) ∙ sym (take_all 82 s k)
      go false h = let k : n ≡ 82 = omega (arith, leb-false (length s) 82 h) in rw k

  text : take n s ++ drop (2 + n) (replicate 84 0) ≡ fitted 82 0 s
  unfolding fitted
  text =
      let m : 84 - (2 + n) ≡ 82 - length s = omega arith in
      rw (drop_replicate {A = ℕ} (2 + n) 84 0, m, cut)

  module _ {l₁ l₂ : List ℕ} {r₁ r₂ : ℕ} (a : Puts (replicate 84 0) 0 (low_first 2 n) r₁ l₁) (b : Puts l₁ 2 (take n s) r₂ l₂) where
    laid : l₂ ≡ low_first 2 n ++ fitted 82 0 s
    unfolding put
    laid =
        let k : length (low_first 2 n ++ take n s) ≡ 2 + n = rw (length-append, cut_length, low_length 2 n) in
        let b₀ : Puts l₁ (0 + length (low_first 2 n)) (take n s) r₂ l₂ = rw (low_length 2 n) b in
        puts_both 0 a b₀ (omega arith)
        ∙ ap (λ (i : ℕ). (low_first 2 n ++ take n s) ++ drop i (replicate 84 0)) (zero-add (length (low_first 2 n ++ take n s)) ∙ k)
        ∙ append_assoc (low_first 2 n) (take n s) (drop (2 + n) (replicate 84 0))
        ∙ ap (λ (x : List ℕ). low_first 2 n ++ x) text

    pub string_done : (part : List ℕ) → part ≡ swap_pairs (take 82 (drop 2 l₂)) → take 2 l₂ ++ (part ++ drop 82 (drop 2 l₂)) ≡ string_text s
    unfolding string_text
    string_done part g =
        let f : take 2 l₂ ≡ low_first 2 n = ap (take 2) laid ∙ take_at (low_first 2 n) (fitted 82 0 s) 2 (low_length 2 n) in
        let d : drop 2 l₂ ≡ fitted 82 0 s = ap (drop 2) laid ∙ drop_at (low_first 2 n) (fitted 82 0 s) 2 (low_length 2 n) in
        let m : length (take 82 s) ≡ n = ap length (sym cut) ∙ cut_length in
        let t : take 82 (fitted 82 0 s) ≡ fitted 82 0 s = take_all 82 (fitted 82 0 s) (omega (arith, fitted_length 82 0 s)) in
        let w : length (fitted 82 0 s) ≤ 82 = omega (arith, fitted_length 82 0 s) in
        let z : drop 82 (fitted 82 0 s) ≡ [] = drop_of_length-le (fitted 82 0 s) w in
        let p : part ≡ swap_pairs (fitted 82 0 s) = g ∙ ap swap_pairs (ap (take 82) d ∙ t) in
        rw (f, d, z, p, m, append-nil)
