-- Laws of the rows of some bytes.
use Prim.Native.Nat.{ℕ, zero, suc, ◌+◌, ◌≤◌, ◌<◌}
use mathlib.Core.Path.{◌≡◌, refl, ap, sym, ◌∙◌}
use mathlib.Core.List.{List, [], ◌∷◌}
use native.Mathlib.Omega.{arith}
use lib.ListN.{length, drop, get_or, length-drop, drop_of_length-le}
use lib.Seq.{drop-drop}
use Rattle.base.proofs.Parts.{drop_next}
use Rattle.file_type.specs.Table.{of_code}
use Rattle.directory_row.specs.declared.Row.{Row}
use Rattle.directory_row.specs.Row.{row_of}
use Rattle.directory.specs.Rows.{rows_in, rows}

no_bytes : (most size : ℕ) → rows_in most size [] ≡ []
unfolding rows_in
no_bytes zero size = refl
no_bytes (suc most) size = refl

module _ (size : ℕ) (h : 0 < size) where
  -- any bound will do that is no less than the bytes
  enough : (k j : ℕ) (s : List ℕ) → length s ≤ k → length s ≤ j → rows_in k size s ≡ rows_in j size s
  unfolding rows_in
  enough zero j [] a b = sym (no_bytes j size)
  enough zero j (x ∷ s) a b = absurd (omega arith)
  enough (suc k) j [] a b = sym (no_bytes j size)
  enough (suc k) zero (x ∷ s) a b = absurd (omega arith)
  enough (suc k) (suc j) (x ∷ s) a b =
      let n : length (drop size (x ∷ s)) ≤ length s = simp length-drop (omega arith) in
      ap (λ (l : List Row). row_of (of_code x) x s ∷ l) (enough k j (drop size (x ∷ s)) (omega arith) (omega arith))

  module _ (s : List ℕ) (at : ℕ) where
    pub rows_end : length s ≤ at → rows at size s ≡ []
    unfolding rows
    rows_end g = rw (drop_of_length-le s g) (no_bytes (length s) size)

    pub rows_next : at < length s → rows at size s ≡ row_of (of_code (get_or s at 0)) (get_or s at 0) (drop (at + 1) s) ∷ rows (at + size) size s
    unfolding rows rows_in
    rows_next g =
        let n : length (drop at s) ≤ length s = simp length-drop (omega arith) in
        enough (length s) (suc (length s)) (drop at s) n (omega arith)
        ∙ ap (rows_in (suc (length s)) size) (drop_next s at g)
        ∙ ap (λ (b : List ℕ). row_of (of_code (get_or s at 0)) (get_or s at 0) (drop (at + 1) s) ∷ rows_in (length s) size b) (ap (drop size) (sym (drop_next s at g)) ∙ drop-drop size at s)
