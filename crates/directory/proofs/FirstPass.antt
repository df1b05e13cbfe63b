-- Laws of the first pass.
use Rattle.std.specs.Prelude.{Option, None, Some}
use Prim.Native.Nat.{ℕ, suc, ◌+◌, ◌≤◌, ◌<◌}
use mathlib.Core.Path.{◌≡◌, refl, ap, sym, ◌∙◌}
use mathlib.Core.Bool.{cond}
use mathlib.Core.List.{List, [], ◌∷◌}
use native.Mathlib.Nat.{add-zero}
use native.Mathlib.Omega.{arith}
use lib.ListN.{length, drop, get_or}
use Rattle.file_type.specs.Table.{of_code}
use Rattle.directory_row.specs.declared.Row.{Row}
use Rattle.directory_row.specs.declared.Row.TheVariants as row·
use Rattle.directory_row.specs.Row.{row_of, number_of}
use Rattle.directory.specs.Passes.{count_from}
use Rattle.directory.specs.Rows.{rows, any_cut, files_from}
use Rattle.directory.proofs.RowLaws.{rows_end, rows_next}

-- ---- a row, and the rows behind it
one_more : (n m : ℕ) (row : Row) → count_from n (row ∷ []) ≡ Some m → (m ≤ n + 1) × ((rs : List Row) → count_from n (row ∷ rs) ≡ count_from m rs)
unfolding count_from
one_more n m (row·.File t bytes) e = let f : n + 1 ≡ m = cc in (omega arith, λ rs. ap (λ (k : ℕ). count_from k rs) f)
one_more n m row·.Cut e = let z : ⊥ = cc in absurd z
one_more n m row·.Reserved e = let f : n ≡ m = cc in (omega arith, λ rs. ap (λ (k : ℕ). count_from k rs) f)
one_more n m row·.Other e = let f : n ≡ m = cc in (omega arith, λ rs. ap (λ (k : ℕ). count_from k rs) f)

all_cut : (n : ℕ) (row : Row) (rs : List Row) → count_from n (row ∷ []) ≡ None → count_from n (row ∷ rs) ≡ None
unfolding count_from
all_cut n (row·.File t bytes) rs e = let z : ⊥ = cc in absurd z
all_cut n row·.Cut rs e = refl
all_cut n row·.Reserved rs e = let z : ⊥ = cc in absurd z
all_cut n row·.Other rs e = let z : ⊥ = cc in absurd z

-- ---- the loop: what is left to count gives what the whole gives
module _ (size : ℕ) (h : 0 < size) (s : List ℕ) where
  pub count_done : (at n : ℕ) (whole : Option ℕ) → count_from n (rows at size s) ≡ whole → length s ≤ at → Some n ≡ whole
  unfolding count_from
  count_done at n whole inv g = sym (ap (count_from n) (rows_end size h s at g)) ∙ inv

  module _ (at n : ℕ) (whole : Option ℕ) (inv : count_from n (rows at size s) ≡ whole) (r : Row) (c : Option ℕ) (g : at < length s) (er : r ≡ row_of (of_code (get_or s at 0)) (get_or s at 0) (drop (at + 1) s)) (ec : c ≡ count_from n (r ∷ [])) where
    next : count_from n (r ∷ rows (at + size) size s) ≡ whole
    next = ap (λ (x : Row). count_from n (x ∷ rows (at + size) size s)) er ∙ sym (ap (count_from n) (rows_next size h s at g)) ∙ inv

    pub count_stop : c ≡ None → None ≡ whole
    count_stop e = sym (all_cut n r (rows (at + size) size s) (sym ec ∙ e)) ∙ next

    module _ (m : ℕ) (e : c ≡ Some m) where
      pub count_few : n ≤ at → m ≤ at + size
      count_few k = omega (arith, (one_more n m r (sym ec ∙ e)).0)

      pub count_turn : count_from m (rows (at + size) size s) ≡ whole
      count_turn = sym ((one_more n m r (sym ec ∙ e)).1 (rows (at + size) size s)) ∙ next

      -- the row was the last
      pub count_last : length s ≤ at + size → Some m ≡ whole
      count_last k = count_done (at + size) m whole count_turn k

-- ---- what was counted
pub count_is : (n k : ℕ) (rs : List Row) → count_from n rs ≡ cond (any_cut rs) None (Some (n + length (files_from k rs)))
unfolding count_from any_cut files_from
count_is n k [] = ap Some (sym (add-zero n))
count_is n k (row·.File t bytes ∷ rs) =
    let f : n + 1 + length (files_from (number_of t k + 1) rs) ≡ n + suc (length (files_from (number_of t k + 1) rs)) = omega arith in
    count_is (n + 1) (number_of t k + 1) rs ∙ ap (λ (x : ℕ). cond (any_cut rs) None (Some x)) f
count_is n k (row·.Cut ∷ rs) = refl
count_is n k (row·.Reserved ∷ rs) = count_is n (k + 1) rs
count_is n k (row·.Other ∷ rs) = count_is n k rs
