-- Bytes laid over a memory: "A success writes its stated bytes and nothing behind them" (document 01, "Questions put to each call").
use Rattle.std.specs.Prelude.{ℕ, ◌+◌, ◌≡◌, cond, List, ◌++◌, leb, length, take, drop}

-- `l` with the bytes `bs` from the place `at` on; every other byte stays
unfoldable pub put : List ℕ → ℕ → List ℕ → List ℕ
put l at bs = take at l ++ (bs ++ drop (at + length bs) l)

-- `bs` was laid over `l` from `at` on, which left `l'`; `r` is the place behind it
pub record Wrote (l : List ℕ) (at : ℕ) (bs : List ℕ) (r : ℕ) (l' : List ℕ) : Type 0 where
  pub end : r ≡ at + length bs
  pub now : l' ≡ put l at bs

-- where a writing ends, and the memory as it leaves it
pub record Laid : Type 0 where
  pub end : ℕ
  pub memory : List ℕ

abbrev pub laid : ℕ → List ℕ → Laid
laid r l = record { end = r; memory = l }

-- `bs` laid over `l` from `at` on where there is room for all of it; else nothing changes and the place stays
unfoldable pub put_of : List ℕ → ℕ → List ℕ → Laid
put_of l at bs = cond (leb (at + length bs) (length l)) (laid (at + length bs) (put l at bs)) (laid at l)

-- a writer did that
pub record Puts (l : List ℕ) (at : ℕ) (bs : List ℕ) (r : ℕ) (l' : List ℕ) : Type 0 where
  pub is : laid r l' ≡ put_of l at bs
