-- The call `Slc::pccc`: what it answers, and what it leaves in its memories.
use Rattle.std.specs.Prelude.{ℕ, ◌+◌, ◌-◌, ◌≡◌, List, [], length, take, drop, Result, Ok, Err}
use Rattle.base.specs.declared.refusal.Refusal.{Refusal}
use Rattle.base.specs.Put.{put}
use Rattle.processor_spec.specs.declared.Done.{Done}
use Rattle.processor_spec.specs.declared.FileRecord.{FileRecord}
use Rattle.processor_spec.specs.declared.Slc.{Slc}
use Rattle.processor_spec.specs.Plain.{entry_room, state_of}
use Rattle.processor_spec.specs.Step.{Answer, refused, replied, Effect, keeps, takes, lays, Step, step}

-- a refusal, or the length of the reply
unfoldable pub answered_of : Answer → Result ℕ Refusal
answered_of (refused e) = Err e
answered_of (replied bs) = Ok (length bs)

-- "A numbered refusal .. changes no lent memory. A success writes its stated bytes and nothing behind them."
unfoldable pub reply_left : Answer → List ℕ → List ℕ
reply_left (refused e) memory = memory
reply_left (replied bs) memory = put memory 0 bs

-- the bytes that a caller is told: the reply, or nothing
unfoldable pub heard : Result ℕ Refusal → List ℕ → List ℕ
heard (Err e) memory = []
heard (Ok k) memory = take k memory

-- the data memory that a command leaves
unfoldable pub memory_left : Effect → List ℕ → List ℕ
memory_left keeps memory = memory
memory_left takes memory = memory
memory_left (lays at bs) memory = put memory at bs

-- the processor that a command leaves: an entry that is taken moves the place of the oldest one, and one fewer is left
unfoldable pub slc_left : Effect → Slc → List ℕ → Slc
slc_left keeps slc log = slc
slc_left takes slc log = record {
  files = slc.files;
  type_text = slc.type_text;
  type_len = slc.type_len;
  log_at = slc.log_at + entry_room (drop slc.log_at log);
  log_left = slc.log_left - 1;
}
slc_left (lays at bs) slc log = slc

-- what a call gives, and the data memory and the reply memory as it leaves them
pub record Left (D : Type 0) : Type 0 where
  pub done : D
  pub memory : List ℕ
  pub reply : List ℕ

abbrev pub left : {D : Type 0} → D → List ℕ → List ℕ → Left D
left done memory reply = record { done = done; memory = memory; reply = reply }

abbrev pub left_by : Step → Slc → List ℕ → List ℕ → List ℕ → Left Done
left_by x slc memory log reply =
    left (record { slc = slc_left x.effect slc log; answered = answered_of x.answer }) (memory_left x.effect memory) (reply_left x.answer reply)

-- "Command": 16, 17 and 18, then what the processor does, on the plain data that it was lent
unfoldable pub pccc_of : Slc → List FileRecord → List ℕ → List ℕ → List ℕ → List ℕ → Left Done
pccc_of slc table memory log command reply = left_by (step (state_of slc table memory log) command (length reply)) slc memory log reply

-- What the call ensures, of its result and of the data memory and the reply memory at its end.
abbrev pub Says : Slc → List FileRecord → List ℕ → List ℕ → List ℕ → List ℕ → Done → List ℕ → List ℕ → Type 0
Says slc table memory log command reply done memory' reply' = left done memory' reply' ≡ pccc_of slc table memory log command reply
