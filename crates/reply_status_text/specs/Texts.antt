-- The text of a status code, and what a call answers that has a text to say (document 01, module 4).
use Rattle.std.specs.Prelude.{ℕ, ◌≡◌, cond, List, [], ◌∷◌, eqb, ltb, length, Option, None, Some, Result, Ok, Err}
use Rattle.base.specs.Chars.{bytes}
use Rattle.base.specs.Outcome.{Outcome, refused, lays, left}
use Rattle.base.specs.declared.refusal.Refusal.{Refusal}
use Rattle.base.specs.declared.refusal.Refusal.TheVariants.{ShortOutput}

-- "the exact texts of `pccc_error_text`", by status code
abbrev pub texts : List (ℕ × List ℕ)
texts =
    (0x10, bytes "Illegal Command or Format, Address may not exist or not enough elements in data file")
    ∷ (0x20, bytes "PLC Has a Problem and Will Not Communicate")
    ∷ (0x30, bytes "Remote Node Host is Missing, Disconnected, or Shut Down")
    ∷ (0x40, bytes "Host Could Not Complete Function Due To Hardware Fault")
    ∷ (0x50, bytes "Addressing problem or Memory Protect Rungs")
    ∷ (0x60, bytes "Function not allows due to command protection selection")
    ∷ (0x70, bytes "Processor is in Program mode")
    ∷ (0x80, bytes "Compatibility mode file missing or communication zone problem")
    ∷ (0x90, bytes "Remote node cannot buffer command")
    ∷ (0xF0, bytes "Error code in EXT STS Byte")
    ∷ []

abbrev pub text_in : List (ℕ × List ℕ) → ℕ → Option (List ℕ)
text_in [] status = None
text_in (row ∷ rows) status = cond (eqb row.0 status) (Some row.1) (text_in rows status)

-- the text of a status code; most codes have none
unfoldable pub text_of : ℕ → Option (List ℕ)
text_of status = text_in texts status

-- what a call does that has a text to say: "status text needs 96", no: 6
abbrev pub saying : List ℕ → List ℕ → Outcome
saying text l = cond (ltb (length l) 96) (refused ShortOutput) (lays 0 text)

-- what it answers, and the memory that it leaves; where there is no text, nothing is done
abbrev pub status_of : Outcome → Result (Option ℕ) Refusal
status_of (refused e) = Err e
status_of (lays at bs) = Ok (Some (length bs))

abbrev pub answer_of : Option (List ℕ) → List ℕ → Result (Option ℕ) Refusal
answer_of None l = Ok None
answer_of (Some text) l = status_of (saying text l)

abbrev pub left_of : Option (List ℕ) → List ℕ → List ℕ
left_of None l = l
left_of (Some text) l = left (saying text l) l

pub record Tells (text : Option (List ℕ)) (l : List ℕ) (r : Result (Option ℕ) Refusal) (l' : List ℕ) : Type 0 where
  pub answer : r ≡ answer_of text l
  pub memory : l' ≡ left_of text l
