-- The frame of a request and the typed logical layouts (document 01, "Request bytes"; manual 1770-6.5.16).
use Rattle.std.specs.Prelude.{ℕ, ◌+◌, cond, List, [], ◌∷◌, ◌++◌, ltb, length}
use Rattle.base.specs.Numbers.{low_first}
use Rattle.request_frame.specs.declared.Target.{Target}
use Rattle.request_frame.specs.declared.Requestor.{Requestor}

-- "the default requester is 09 10 and 09 10 19 71"
abbrev pub default_requestor : Requestor
default_requestor = record { vid = 0x09 ∷ 0x10 ∷ []; vsn = 0x09 ∷ 0x10 ∷ 0x19 ∷ 0x71 ∷ [] }

-- "4B 02 20 67 24 01 07, requester": two vendor bytes and four serial bytes
unfoldable pub identity : Requestor → List ℕ
identity q = (0x4B ∷ 0x02 ∷ 0x20 ∷ 0x67 ∷ 0x24 ∷ 0x01 ∷ 0x07 ∷ []) ++ (q.vid ++ q.vsn)

-- manual: CMD, STS 0, TNS low byte first
unfoldable pub command_head : Requestor → ℕ → ℕ → List ℕ
command_head q cmd sequence = identity q ++ ((cmd ∷ 0x00 ∷ []) ++ low_first 2 sequence)

-- "An address below 255 is one byte; from 255 on it is FF and a word (manual)"
unfoldable pub address_field : ℕ → List ℕ
address_field n = cond (ltb n 255) (low_first 1 n) ((0xFF ∷ []) ++ low_first 2 n)

-- manual, typed logical commands with two address fields: function, size, file number, file type, element
unfoldable pub two_addresses : ℕ → ℕ → Target → List ℕ
two_addresses function size p = (function ∷ size ∷ []) ++ (address_field p.file ++ ((p.code ∷ []) ++ address_field p.element))

-- manual, with three: the sub-element behind them
unfoldable pub three_addresses : ℕ → ℕ → Target → List ℕ
three_addresses function size p = two_addresses function size p ++ address_field p.sub

-- a typed logical command: CMD 0F
unfoldable pub typed : Requestor → ℕ → ℕ → ℕ → Target → List ℕ
typed q sequence function size p = command_head q 0x0F sequence ++ three_addresses function size p

abbrev pub typed_length : Target → ℕ
typed_length p = 20 + length (address_field p.file) + length (address_field p.element) + length (address_field p.sub)
