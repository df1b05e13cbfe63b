-- Bytes as hexadecimal text.
use Rattle.std.specs.Prelude.{ℕ, ◌+◌, ◌*◌, ◌-◌, ◌/◌, ◌%◌, ◌≤◌, ◌≡◌, List, [], ◌∷◌, Bool, cond, ◌&&◌, ltb, leb, eqb, length, take, drop, Option, None, Some, option_map, unwrap_or}
use Rattle.std.specs.List.{list_all}
use Rattle.text.specs.Line.{same}

-- a capital hexadecimal digit
unfoldable pub digit : ℕ → ℕ
digit d = cond (ltb d 10) (48 + d) (55 + d)

-- two digits for each byte
unfoldable pub hex : List ℕ → List ℕ
hex [] = []
hex (b ∷ s) = digit (b / 16) ∷ digit (b % 16) ∷ hex s

-- the value of a hexadecimal digit in either case; 16 where a byte is none
unfoldable pub nibble : ℕ → ℕ
nibble c =
    cond (leb 48 c && leb c 57) (c - 48)
    (cond (leb 65 c && leb c 70) (c - 55)
    (cond (leb 97 c && leb c 102) (c - 87) 16))

-- nothing but hexadecimal digits
unfoldable pub digits : List ℕ → Bool
digits s = list_all (λ c. ltb (nibble c) 16) s

-- an even and positive number of digits
unfoldable pub hex_text : List ℕ → Bool
hex_text s = ltb 0 (length s) && (eqb (length s % 2) 0 && digits s)

-- a byte for each two digits
unfoldable pub pairs : List ℕ → List ℕ
pairs [] = []
pairs (a ∷ []) = []
pairs (a ∷ b ∷ s) = (nibble a * 16 + nibble b) ∷ pairs s

-- the bytes of a byte string, where a text is one: a byte for each two digits, and none at all for `-`
unfoldable pub unhexed : List ℕ → Option (List ℕ)
unhexed s = cond (hex_text s) (Some (pairs s)) (cond (same s (45 ∷ [])) (Some []) None)

-- the bytes, where they fit in so much room
unfoldable pub fitting : ℕ → Option (List ℕ) → Option (List ℕ)
fitting room None = None
fitting room (Some bs) = cond (leb (length bs) room) (Some bs) None

-- a byte string was read into a memory `out`, which left `out'`: its bytes are the first ones, as many as were answered, and nothing behind them changed;
-- where it could not be read, nothing changed at all
pub record Unhexed (s out : List ℕ) (r : Option ℕ) (out' : List ℕ) : Type 0 where
  pub fits : unwrap_or r 0 ≤ length out'
  pub counts : unwrap_or r 0 ≡ length (take (unwrap_or r 0) out')
  pub right : option_map (λ n. take n out') r ≡ fitting (length out) (unhexed s)
  pub kept : drop (unwrap_or r 0) out' ≡ drop (unwrap_or r 0) out
  pub refused : r ≡ None → out' ≡ out

-- the number that hexadecimal digits stand for, behind those that make n
unfoldable pub hex_value : ℕ → List ℕ → ℕ
hex_value n [] = n
hex_value n (c ∷ s) = hex_value (n * 16 + nibble c) s

-- "CODE: exactly two hexadecimal digits"
unfoldable pub code_of : List ℕ → Option ℕ
code_of s = cond (eqb (length s) 2 && digits s) (Some (hex_value 0 s)) None

-- "BITS: exactly eight"
unfoldable pub bits_of : List ℕ → Option ℕ
bits_of s = cond (eqb (length s) 8 && digits s) (Some (hex_value 0 s)) None
