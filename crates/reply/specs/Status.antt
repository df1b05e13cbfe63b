-- The status of a reply in words, and its datalog entry (document 01, module 4): of a raw reply, and of one that begins with the requester's id.
use Rattle.std.specs.Prelude.{ℕ, ◌+◌, ◌/◌, ◌%◌, cond, List, [], ◌∷◌, ◌++◌, eqb, ltb, Option, None, Some}
use Rattle.base.specs.Chars.{bytes}
use Rattle.reply_part.specs.Part.{of_raw, of_reply, data_of}
use Rattle.reply_status_text.specs.Texts.{text_of}

-- two small hexadecimal digits, as the Rust's `{:02x}`, behind a text, and a closing bracket
abbrev pub digit : ℕ → ℕ
digit d = cond (ltb d 10) (48 + d) (87 + d)

unfoldable pub in_hex : List ℕ → ℕ → List ℕ
in_hex before b = before ++ (digit (b / 16) ∷ digit (b % 16) ∷ bytes ")")

-- the first byte, where there is one
abbrev pub first : List ℕ → Option ℕ
first [] = None
first (b ∷ s) = Some b

-- `Unknown Status (0xa0)` for a code without a text
abbrev pub named : ℕ → Option (List ℕ) → List ℕ
named status None = in_hex (bytes "Unknown Status (0x") status
named status (Some text) = text

-- ` (EXT STS 0x06)` behind the text of F0, where there is an extended status: byte 61 of a raw reply
abbrev pub extended : ℕ → Option ℕ → List ℕ
extended status None = []
extended status (Some b) = cond (eqb status 0xF0) (in_hex (bytes " (EXT STS 0x") b) []

-- what status, byte 58 of a raw reply, and extended status say: nothing where the status is success, `Unknown Status` where it is missing
abbrev pub said : Option ℕ → Option ℕ → Option (List ℕ)
said None extension = Some (bytes "Unknown Status")
said (Some status) extension = cond (eqb status 0) None (Some (named status (text_of status) ++ extended status extension))

-- what a reply says by its part from the status on
unfoldable pub status_in : List ℕ → Option (List ℕ)
status_in part = said (first part) (first (data_of part))

abbrev pub status_text : List ℕ → Option (List ℕ)
status_text raw = status_in (of_raw raw)

abbrev pub reply_status : List ℕ → Option (List ℕ)
reply_status reply = status_in (of_reply reply)

-- "`parse_datalog` as the part of the caller's reply from byte 61 on (empty if shorter)"
abbrev pub datalog_entry : List ℕ → List ℕ
datalog_entry raw = data_of (of_raw raw)

abbrev pub reply_datalog : List ℕ → List ℕ
reply_datalog reply = data_of (of_reply reply)
