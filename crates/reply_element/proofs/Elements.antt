-- The value of one element's bytes, one law for each answer.
use Rattle.std.specs.Prelude.{Result, Ok}
use Rattle.std.specs.Result.{result_unwrap_or}
use Prim.Native.Nat.{ℕ, ◌+◌, ◌%◌, ◌≤◌, min}
use mathlib.Core.Path.{◌≡◌, refl, ap, sym, subst, ◌∙◌}
use mathlib.Core.Bool.{false}
use mathlib.Core.List.{List}
use native.Mathlib.Nat.{zero-add}
use native.Mathlib.Omega.{arith}
use borrow.Author.Tests.{le-leb, le-ltb}
use lib.Dec.{ltb}
use lib.ListN.{length, take, drop, length-take}
use lib.Seq.{take-take, length-take-le}
use Rattle.base.specs.Numbers.{number}
use Rattle.base.specs.Put.{Wrote, Puts}
use Rattle.std.proofs.lemmas.List.{take_min}
use Rattle.base.proofs.Put.{puts_wrote, wrote_length, put_first}
use Rattle.element_text.specs.Text.{padded_swap, written_of, out_of}
use Rattle.element_text.proofs.Text.{padded_length}
use Rattle.reply_values_spec.specs.declared.ReplyValue.TheVariants as value
use Rattle.base.specs.declared.refusal.Refusal.{Refusal}
use Rattle.reply_values_spec.specs.Values.{text, in_room, Reads}

-- ---- swapped pairs
module _ (s l : List ℕ) (h : length s + length s % 2 ≤ length l) where
  room : ltb (length l) (length (padded_swap s)) ≡ false
  room = le-ltb (length l) (length (padded_swap s)) (rw (padded_length s) h)

  pub swap_laid : {r : Result ℕ Refusal} {m : List ℕ} {n : ℕ} → (r ≡ written_of (padded_swap s) l) × (m ≡ out_of (padded_swap s) l) → n ≡ result_unwrap_or r 0 → Wrote l 0 (padded_swap s) n m
  swap_laid {r} {m} {n} e f =
      let z : r ≡ Ok (length (padded_swap s)) = e.0 ∙ rw room in
      let y : n ≡ length (padded_swap s) = f ∙ ap (λ (x : Result ℕ Refusal). result_unwrap_or x 0) z in
      record { end = y ∙ sym (zero-add _); now = e.1 ∙ rw room }

-- ---- text
text_laid : (s l : List ℕ) (n : ℕ) {r : ℕ} {m : List ℕ} → 82 ≤ length l → Wrote l 0 s r m → Reads (in_room (length l) n (text s)) l (Ok (value.Text r, n)) m
text_laid s l n h w = rw (le-leb 82 (length l) h) (record { answer = ap (λ (k : ℕ). Ok (value.Text k, n)) (w.end ∙ zero-add _); memory = w.now })

module _ (e : List ℕ) {p : List ℕ} (d : p ≡ take 82 (drop 2 e)) where
  few : length p ≤ 82
  few = omega (arith, ap length d, length-take 82 (drop 2 e))

  pub pairs_fit : length p + length p % 2 ≤ 82
  pairs_fit = omega (arith, few)

  module _ (x : ℕ) {z q : List ℕ} {there n : ℕ} (f : length z ≡ 82) (w : Wrote z 0 (padded_swap p) there q) (g : n ≡ min x there) where
    all_there : there ≡ length (padded_swap p)
    all_there = w.end ∙ zero-add _

    small : length (padded_swap p) ≤ 82
    small = omega (arith, padded_length p, pairs_fit)

    pub text_within : n ≤ length q
    text_within = omega (arith, all_there, small, wrote_length w (omega (arith, small, zero-add (length (padded_swap p)))), f)

    pub text_counts : n ≡ length (take n q)
    text_counts = sym (length-take-le n q text_within)

    cut_text : take n q ≡ take x (padded_swap p)
    cut_text =
        let a : take (length (padded_swap p)) q ≡ padded_swap p = ap (take (length (padded_swap p))) w.now ∙ put_first z (padded_swap p) (length (padded_swap p)) refl (omega (arith, small, f)) in
        let b : take n (take (length (padded_swap p)) q) ≡ take n q = take-take n (length (padded_swap p)) q (omega (arith, all_there)) in
        sym b ∙ ap (take n) a ∙ ap (λ (i : ℕ). take i (padded_swap p)) (g ∙ ap (min x) all_there) ∙ take_min x (padded_swap p)

    laid_line : (l : List ℕ) (k : ℕ) {r : ℕ} {m : List ℕ} → 82 ≤ length l → x ≡ number (take 2 (drop 0 e)) → Puts l 0 (take n q) r m
        → Reads (in_room (length l) k (text (take (number (take 2 e)) (padded_swap (take 82 (drop 2 e)))))) l (Ok (value.Text n, k)) m
    laid_line l k {r} {m} h v u =
        let s : take n q ≡ take (number (take 2 e)) (padded_swap (take 82 (drop 2 e))) = cut_text ∙ rw (v, d) in
        let y : length (take n q) ≡ n = sym text_counts in
        let t : Wrote l 0 (take n q) r m = puts_wrote u (omega (arith, y, all_there, small)) in
        let t' : Wrote l 0 (take n q) n m = record { end = sym y ∙ sym (zero-add _); now = t.now } in
        subst (λ (x : List ℕ). Reads (in_room (length l) k (text x)) l (Ok (value.Text n, k)) m) s (text_laid (take n q) l k h t')

-- the same, with what the call was made of in the order in which it is found
pub line_read : (e l : List ℕ) (k x y : ℕ) {p z q : List ℕ} {n there r : ℕ} {m : List ℕ} → Puts l 0 (take n q) r m → Wrote z 0 (padded_swap p) there q → p ≡ take 82 (drop 2 e) → n ≡ min x there
    → x ≡ y → y ≡ number (take 2 (drop 0 e)) → length z ≡ 82 → 82 ≤ length l → Reads (in_room (length l) k (text (take (number (take 2 e)) (padded_swap (take 82 (drop 2 e)))))) l (Ok (value.Text n, k)) m
line_read e l k x y u w d g i v f h = laid_line e d x f w g l k h (i ∙ v) u
