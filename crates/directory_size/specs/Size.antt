-- The directory's size in a reply (document 01, module 5: "the directory size, which may be negative"): of a raw reply, and of one that begins with the requester's id.
use Rattle.std.specs.Prelude.{ℕ, ℤ, cond, List, ltb, pos, ◌-ℤ◌, length, take, Result, Ok, Err}
use Rattle.base.specs.Numbers.{number}
use Rattle.reply_part.specs.Part.{of_raw, of_reply, data_of}
use Rattle.base.specs.declared.refusal.Refusal.{Refusal}
use Rattle.base.specs.declared.refusal.Refusal.TheVariants.{ShortReply}

-- the data's first word, less what the processor adds; "`parse_file_directory_size`: are there 63 bytes? no: 25", which are 2 bytes of data from byte 61 on
unfoldable pub size_in : List ℕ → ℕ → Result ℤ Refusal
size_in s const = cond (ltb (length s) 2) (Err ShortReply) (Ok (pos (number (take 2 s)) -ℤ pos const))

abbrev pub size_of : List ℕ → ℕ → Result ℤ Refusal
size_of raw const = size_in (data_of (of_raw raw)) const

abbrev pub reply_size : List ℕ → ℕ → Result ℤ Refusal
reply_size reply const = size_in (data_of (of_reply reply)) const
