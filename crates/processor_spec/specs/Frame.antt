-- The frame of a command and of its reply (document 01, "What the processor does"; command layout from the manual).
use Rattle.std.specs.Prelude.{ℕ, ◌+◌, Bool, ◌&&◌, List, ◌∷◌, ◌++◌, leb, ltb, length, get_or, take, drop}
use Rattle.std.specs.Int.Bits.{bit_or}

-- 18: "Is the input not empty, its first byte not 0, and its length at least that byte plus 4?"
unfoldable pub well_formed : List ℕ → Bool
well_formed c = ltb 0 (length c) && ltb 0 (get_or c 0 0) && leb (get_or c 0 0 + 4) (length c)

-- "The first byte n counts the requester id including itself."
unfoldable pub requester : List ℕ → List ℕ
requester c = take (get_or c 0 0) c

-- "Then CMD, STS, two TNS bytes, function."
unfoldable pub body : List ℕ → List ℕ
body c = drop (get_or c 0 0) c

unfoldable pub cmd : List ℕ → ℕ
cmd c = get_or (body c) 0 0

-- from the function byte on
unfoldable pub function : List ℕ → List ℕ
function c = drop 4 (body c)

-- "The reply is the id, CMD OR 0x40, status, TNS, then data or one extended byte."
unfoldable pub framed : List ℕ → ℕ → List ℕ → List ℕ
framed c status bs = requester c ++ (bit_or (cmd c) 0x40 ∷ status ∷ get_or (body c) 2 0 ∷ get_or (body c) 3 0 ∷ bs)

-- the status in the reply to a command
unfoldable pub status : List ℕ → List ℕ → ℕ
status c bs = get_or bs (get_or c 0 0 + 1) 0
