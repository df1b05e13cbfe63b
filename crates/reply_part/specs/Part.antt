-- The part of a reply from its status on (document 01, module 4): the status, two bytes of the sequence number, then data or an extended status.
-- What a reply says is defined of that part alone, whatever stands in front of it.
use Rattle.std.specs.Prelude.{ℕ, ◌+◌, List, [], ◌∷◌, drop}

-- a raw reply has 50 bytes of encapsulation, a requester's id of 7 and CMD in front
abbrev pub of_raw : List ℕ → List ℕ
of_raw raw = drop 58 raw

-- a reply as the simulated processor gives it: "The first byte n counts the requester id including itself"; "The reply is the id, CMD OR 0x40, status, TNS, then data or one
-- extended byte"
abbrev pub of_reply : List ℕ → List ℕ
of_reply [] = []
of_reply (n ∷ s) = drop (n + 1) (n ∷ s)

-- the data
abbrev pub data_of : List ℕ → List ℕ
data_of part = drop 3 part
