-- Numbers as bytes, low byte first, over the width: a word is two bytes, a long four (document 01: "A word is 16 bits, low byte first";
-- "Word and long codecs share one fact over the width").
use Rattle.std.specs.Prelude.{ℕ, zero, suc, ◌+◌, ◌*◌, ◌/◌, ◌%◌, List, [], ◌∷◌}

-- the low `k` bytes of `n`
unfoldable pub low_first : ℕ → ℕ → List ℕ
low_first zero n = []
low_first (suc k) n = n % 256 ∷ low_first k (n / 256)

-- the number that has these bytes
unfoldable pub number : List ℕ → ℕ
number [] = 0
number (b ∷ s) = b + 256 * number s
