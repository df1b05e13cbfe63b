-- The records of answers that count what was written, and of the datalog's part and the directory's size. Refused: the number, and 0 for all else.
use Rattle.std.specs.Prelude.{ℕ, ◌-◌, ◌≡◌, List, ℤ, pos, length, Option, None, Some, Result, Ok, Err}
use Rattle.base.specs.Outcome.{Outcome, left}
use Rattle.base.specs.Refusals.{number_of}
use Rattle.base.specs.declared.refusal.Refusal.{Refusal}
use Rattle.address_dotted.specs.DottedAnswers.{dotted_of}
use Rattle.directory.specs.Rows as rows
use Rattle.request_untagged.specs.Requests.{message_of}
use Rattle.reply_status_text.specs.Texts.{answer_of, left_of}
use Rattle.reply.specs.Status.{datalog_entry, reply_datalog}
use Rattle.element_text.specs.Text.{written_of, out_of}
use Rattle.link_texts.specs.declared.SlcDirectorySize.{SlcDirectorySize}
use Rattle.link_texts.specs.declared.SlcPart.{SlcPart}
use Rattle.link_texts.specs.declared.SlcWritten.{SlcWritten}

abbrev pub written : ℕ → ℕ → SlcWritten
written n count = record { refused = n; length = count }

-- bytes swapped or laid, a text with a full stop, a request, the files of a directory
abbrev pub written_record : Result ℕ Refusal → SlcWritten
written_record (Err e) = written (number_of e) 0
written_record (Ok n) = written 0 n

-- a status that has no text: 0 bytes
abbrev pub status_record : Result (Option ℕ) Refusal → SlcWritten
status_record (Err e) = written (number_of e) 0
status_record (Ok None) = written 0 0
status_record (Ok (Some n)) = written 0 n

abbrev pub size_record : Result ℤ Refusal → SlcDirectorySize
size_record (Err e) = record { refused = number_of e; bytes = pos 0 }
size_record (Ok z) = record { refused = 0; bytes = z }

-- the part of the caller's bytes that stands at their end
abbrev pub end_part : List ℕ → List ℕ → SlcPart
end_part s end = record { from = length s - length end; length = length end }

-- "`parse_datalog` as the part of the caller's reply from byte 61 on (empty if shorter)"
unfoldable pub part_of : List ℕ → SlcPart
part_of raw = end_part raw (datalog_entry raw)

-- the same of a reply that begins with the requester's id
unfoldable pub reply_part : List ℕ → SlcPart
reply_part reply = end_part reply (reply_datalog reply)

-- ---- what calls answer and leave in the lent memory
-- these bytes, where there is room for them
pub record Swaps (bs l : List ℕ) (r : SlcWritten) (l' : List ℕ) : Type 0 where
  pub answer : r ≡ written_record (written_of bs l)
  pub memory : l' ≡ out_of bs l

-- an address's text
pub record Dots (o : Outcome) (l : List ℕ) (r : SlcWritten) (l' : List ℕ) : Type 0 where
  pub answer : r ≡ written_record (dotted_of o)
  pub memory : l' ≡ left o l

-- a request
pub record Sends (o : Outcome) (l : List ℕ) (r : SlcWritten) (l' : List ℕ) : Type 0 where
  pub answer : r ≡ written_record (message_of o)
  pub memory : l' ≡ left o l

-- a status text
pub record Says (text : Option (List ℕ)) (l : List ℕ) (r : SlcWritten) (l' : List ℕ) : Type 0 where
  pub answer : r ≡ status_record (answer_of text l)
  pub memory : l' ≡ left_of text l

-- the files of a directory
pub record Lists (o : rows.Says) (l : List (List ℕ)) (r : SlcWritten) (l' : List (List ℕ)) : Type 0 where
  pub answer : r ≡ written_record (rows.answer_of o)
  pub memory : l' ≡ rows.left_of o l
