-- The requests without an address text (document 01, questions 6 and 26, "Request bytes" and module 3).
use Rattle.std.specs.Prelude.{ℕ, ◌≡◌, cond, List, [], ◌∷◌, ◌++◌, leb, length, Result, Ok, Err}
use Rattle.base.specs.Outcome.{Outcome, refused, lays, left}
use Rattle.base.specs.declared.refusal.Refusal.{Refusal}
use Rattle.base.specs.declared.refusal.Refusal.TheVariants.{ShortOutput, OffsetOutOfRange}
use Rattle.directory_sys0.specs.declared.Sys0Info.{Sys0Info}
use Rattle.request_frame.specs.RequestFrame.{command_head, two_addresses}
use Rattle.request_frame.specs.declared.Requestor.{Requestor}

abbrev pub message_of : Outcome → Result ℕ Refusal
message_of (refused e) = Err e
message_of (lays at bs) = Ok (length bs)

-- what a builder answers and leaves in the lent memory
pub record Builds (o : Outcome) (l : List ℕ) (r : Result ℕ Refusal) (l' : List ℕ) : Type 0 where
  pub answer : r ≡ message_of o
  pub now : l' ≡ left o l

-- "6. Has the output at least 27 bytes ..? (added; the other request builders also need 27 ..) no: 6"
unfoldable pub sent : List ℕ → List ℕ → Outcome
sent bs out = cond (leb 27 (length out)) (lays 0 bs) (refused ShortOutput)

-- "CMD 0x06 with function 0x03"
unfoldable pub processor_type : Requestor → ℕ → List ℕ → Outcome
processor_type q sequence out = sent (command_head q 0x06 sequence ++ (0x03 ∷ [])) out

-- "the 23 bytes of `datalog_request`": a requester and a sequence of its own, and the queue as it is, one byte
abbrev pub datalog_requestor : Requestor
datalog_requestor = record { vid = 0x4D ∷ 0x00 ∷ []; vsn = 0xA1 ∷ 0x4E ∷ 0xC3 ∷ 0x30 ∷ [] }

unfoldable pub datalog : ℕ → List ℕ → Outcome
datalog queue out = sent (command_head datalog_requestor 0x0F 0x30 ++ (0xA2 ∷ 0x6D ∷ 0x00 ∷ 0xA5 ∷ queue ∷ 0x00 ∷ [])) out

-- A1 on file 0: size length, type and size element as `sys0_info` gives them
unfoldable pub directory_size : Sys0Info → Requestor → ℕ → List ℕ → Outcome
directory_size info q sequence out =
    sent (command_head q 0x0F sequence ++ (0xA1 ∷ info.size_len ∷ 0x00 ∷ info.file_type ∷ info.size_element ∷ [])) out

-- A1 on file 0. "is the offset at most 65,535? no: 26, then 6"
unfoldable pub directory_read : ℕ → ℕ → ℕ → Requestor → ℕ → List ℕ → Outcome
directory_read type offset size q sequence out =
    cond (leb offset 65535)
    (sent (command_head q 0x0F sequence ++ two_addresses 0xA1 size (record { file = 0; code = type; element = offset; sub = 0 })) out)
    (refused OffsetOutOfRange)
