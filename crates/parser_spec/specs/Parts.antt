-- Reading a text part by part: a part gives a value and what is left behind it, or nothing.
use Rattle.std.specs.Prelude.{ℕ, suc, List, [], ◌∷◌, Bool, true, false, ◌&&◌, cond, leb, ltb, eqb, take, drop, Option, None, Some}
use Prim.Native.Char.{Char, code}
use Rattle.parser_spec.specs.DecimalNumbers.{digit_run, number_of}

abbrev pub Part : Type 0 → Type 0
Part A = List ℕ → Option (A × List ℕ)

module _ {A B : Type 0} where
  unfoldable pub then : Option (A × List ℕ) → (A → Part B) → Option (B × List ℕ)
  then None k = None
  then (Some p) k = k p.0 p.1

  abbrev pub ◌>>=◌ : Part A → (A → Part B) → Part B
  ◌>>=◌ p k = λ s. then (p s) k

  abbrev pub ◌>>◌ : Part A → Part B → Part B
  ◌>>◌ p k = λ s. then (p s) (λ _. k)

-- nothing is left
unfoldable pub at_end : List ℕ → Bool
at_end [] = true
at_end (b ∷ s) = false

module _ {A : Type 0} where
  -- a value, with nothing read
  abbrev pub give : A → Part A
  give a = λ s. Some (a, s)

  -- the first of two that is there
  unfoldable pub or_else : Option (A × List ℕ) → Option (A × List ℕ) → Option (A × List ℕ)
  or_else None q = q
  or_else (Some p) q = Some p

  -- the value, where nothing is left
  unfoldable pub ended : Option (A × List ℕ) → Option A
  ended None = None
  ended (Some p) = cond (at_end p.1) (Some p.0) None

  -- "The whole tag must be used."
  unfoldable pub whole : Part A → List ℕ → Option A
  whole p s = ended (p s)

-- a test
unfoldable pub here : Bool → Part (Unit {0})
here true = give tt
here false = λ _. None

-- any byte
unfoldable pub any_byte : Part ℕ
any_byte [] = None
any_byte (b ∷ s) = Some (b, s)

-- one that passes a test, of the bytes or characters that `char` reads
unfoldable pub one : Part ℕ → (ℕ → Bool) → Part (Unit {0})
one char test = do x ← char; here (test x)

-- this byte
unfoldable pub byte : ℕ → Part (Unit {0})
byte v = one any_byte (λ b. eqb b v)

abbrev pub sign : Char → Part (Unit {0})
sign c = byte (code c)

-- one digit or more, and no digit behind them
unfoldable pub numeral : Part ℕ
numeral s = cond (ltb 0 (digit_run s)) (Some (number_of (take (digit_run s) s), drop (digit_run s) s)) None

-- the same, with at most so many digits
unfoldable pub digits : ℕ → Part ℕ
digits max s = cond (leb (digit_run s) max) (numeral s) None

-- the same, from low to high
unfoldable pub digits_in : ℕ → ℕ → ℕ → Part ℕ
digits_in max low high = do
  n ← digits max
  here (leb low n && leb n high)
  give n

module _ {A : Type 0} where
  abbrev pub behind : Option (Unit {0} × List ℕ) → Part A → A → Part A
  behind None p a = give a
  behind (Some q) p a = λ _. p q.1

  -- the part behind this byte, or, where the byte doesn't stand, a value
  unfoldable pub after_byte : ℕ → Part A → A → Part A
  after_byte v p a s = behind (byte v s) p a s

  abbrev pub after : Char → Part A → A → Part A
  after c = after_byte (code c)

-- "`{n}` is the count, any number of digits, held to 2^64 − 1, default 1; ST takes only {1} or {2}."
unfoldable pub count_number : Bool → Part ℕ
count_number false = numeral
count_number true = digits_in 1 1 2

unfoldable pub count_of : Bool → Part ℕ
count_of one_or_two = after "{" (do n ← count_number one_or_two; sign "}"; give n) 1

abbrev pub count : Part ℕ
count = count_of false

-- how many bytes stand before the first such byte
unfoldable pub before_byte : ℕ → List ℕ → ℕ
before_byte v [] = 0
before_byte v (b ∷ s) = cond (eqb b v) 0 (suc (before_byte v s))

abbrev pub before : Char → List ℕ → ℕ
before c = before_byte (code c)
