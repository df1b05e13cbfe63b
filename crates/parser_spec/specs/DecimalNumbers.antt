-- Decimal numbers in a text of bytes.
use Rattle.std.specs.Prelude.{ℕ, suc, ◌+◌, ◌*◌, ◌-◌, ◌^◌, ◌≤◌, min, ◌≡◌, List, [], ◌∷◌, Bool, ◌&&◌, cond, leb, length, drop}

-- the digits 0 to 9
abbrev pub is_digit : ℕ → Bool
is_digit b = leb 48 b && leb b 57

abbrev pub digit_value : ℕ → ℕ
digit_value b = cond (is_digit b) (b - 48) 0

-- how many digits the text starts with
unfoldable pub digit_run : List ℕ → ℕ
digit_run [] = 0
digit_run (b ∷ s) = cond (is_digit b) (suc (digit_run s)) 0

-- `r` digits stand at `at`, all of them in the text
pub record Run (s : List ℕ) (at r : ℕ) : Type 0 where
  pub is : r ≡ digit_run (drop at s)
  pub fits : r ≤ length s - at

-- the value of digits, of any size, behind the digits of `n`
unfoldable pub decimal : ℕ → List ℕ → ℕ
decimal n [] = n
decimal n (b ∷ s) = decimal (n * 10 + digit_value b) s

-- "held to 2^64 − 1"
abbrev pub most : ℕ
most = 2 ^ 64 - 1

unfoldable pub number_of : List ℕ → ℕ
number_of s = min (decimal 0 s) most
