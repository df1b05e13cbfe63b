-- Words under a mask (document 01: "sets each word to (old AND NOT mask) OR (value AND mask)"; "A bit's mask has that one bit").
use Rattle.std.specs.Prelude.{ℕ, ◌-◌, ◌^◌, cond, ltb}
use Rattle.std.specs.Int.Bits.{bit_and, bit_or}

-- `ones` is the largest number of the width, so `ones - mask` is NOT mask
abbrev pub mix : ℕ → ℕ → ℕ → ℕ → ℕ
mix ones mask old value = bit_or (bit_and old (ones - mask)) (bit_and value mask)

-- the mask of a bit of a word
abbrev pub bit_mask : ℕ → ℕ
bit_mask b = cond (ltb b 16) (2 ^ b) 0
