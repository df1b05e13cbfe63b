-- Numbers as decimal text.
use Rattle.std.specs.Prelude.{ℕ, zero, suc, ◌+◌, ◌*◌, ◌-◌, ◌/◌, ◌%◌, ◌^◌, List, [], ◌∷◌, Bool, cond, ◌&&◌, ltb, leb, eqb, ℤ, pos, negsuc, neg_ℤ, Option, None, Some}

-- the digits of n in front of a text; k is at least as many as the digits behind the first
unfoldable pub decimal_before : ℕ → ℕ → List ℕ → List ℕ
decimal_before zero n s = (48 + n) ∷ s
decimal_before (suc k) n s = cond (ltb n 10) ((48 + n) ∷ s) (decimal_before k (n / 10) ((48 + n % 10) ∷ s))

-- a number with no zero in front
unfoldable pub decimal : ℕ → List ℕ
decimal n = decimal_before n n []

-- a whole number, with `-` in front of a negative one
unfoldable pub signed_text : ℤ → List ℕ
signed_text (pos n) = decimal n
signed_text (negsuc n) = 45 ∷ decimal (suc n)

-- is a byte one of the digits 0 to 9
abbrev pub is_digit : ℕ → Bool
is_digit c = leb 48 c && leb c 57

-- the number that digits stand for, behind those that make n
unfoldable pub number_from : ℕ → List ℕ → Option ℕ
number_from n [] = Some n
number_from n (c ∷ s) = cond (is_digit c) (number_from (n * 10 + (c - 48)) s) None

-- a number of any size: one or more digits, leading zeros allowed
unfoldable pub number_of : List ℕ → Option ℕ
number_of [] = None
number_of (c ∷ s) = number_from 0 (c ∷ s)

-- of these, the numbers below 2 ^ 64
unfoldable pub unsigned_of : Option ℕ → Option ℕ
unsigned_of None = None
unsigned_of (Some n) = cond (ltb n (2 ^ 64)) (Some n) None

-- a number with no sign in front, below 2 ^ 63
unfoldable pub plus : Option ℕ → Option ℤ
plus None = None
plus (Some n) = cond (ltb n (2 ^ 63)) (Some (pos n)) None

-- a number with `-` in front, down to - 2 ^ 63
unfoldable pub minus : Option ℕ → Option ℤ
minus None = None
minus (Some n) = cond (leb n (2 ^ 63)) (Some (neg_ℤ (pos n))) None

-- a single `-` may stand in front
unfoldable pub signed_of : List ℕ → Option ℤ
signed_of [] = None
signed_of (c ∷ s) = cond (eqb c 45) (minus (number_of s)) (plus (number_of (c ∷ s)))
