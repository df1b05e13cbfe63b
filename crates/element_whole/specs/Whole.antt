-- Whole numbers in words and longs, over the width: `ones` is the largest number of the width (document 01, module 2).
use Rattle.std.specs.Prelude.{ℕ, ◌-◌, ◌*◌, Bool, false, cond, leb, ltb, eqb, ℤ, pos, negsuc, Option, Some, None}
use Rattle.element_whole.specs.declared.Parted.{Parted}

-- is a number −low to high? (`negsuc n` is −(n + 1))
abbrev pub in_range : ℕ → ℕ → ℤ → Bool
in_range low high (pos n) = leb n high
in_range low high (negsuc n) = ltb n low

-- two's complement: the bits of −(n + 1) are the complement of those of n
abbrev pub twos : ℕ → ℤ → ℕ
twos ones (pos n) = n
twos ones (negsuc n) = ones - n

-- "all words and longs read signed": the upper half of the numbers stands for the negative ones
abbrev pub signed : ℕ → ℕ → ℤ
signed ones n = cond (leb (2 * n) ones) (pos n) (negsuc (ones - n))

-- the bits of a number that is in range
unfoldable pub bits_of : ℕ → ℕ → ℕ → ℤ → Option ℕ
bits_of ones low high z = cond (in_range low high z) (Some (twos ones z)) None

unfoldable pub is_zero : ℤ → Bool
is_zero (pos n) = eqb n 0
is_zero (negsuc n) = false

-- the number that the parts stand for
abbrev pub joined : Parted → ℤ
joined p = cond p.negative (negsuc p.size) (pos p.size)
