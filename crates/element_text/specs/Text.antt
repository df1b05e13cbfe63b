-- Text as the processor stores it (document 01, "Request bytes" and module 2).
use Rattle.std.specs.Prelude.{ℕ, ◌-◌, ◌%◌, cond, List, [], ◌∷◌, ◌++◌, ltb, length, take, replicate, Result, Ok, Err}
use Rattle.base.specs.Numbers.{low_first}
use Rattle.base.specs.Outcome.{Outcome, refused, lays, left}
use Rattle.base.specs.declared.refusal.Refusal.{Refusal}
use Rattle.base.specs.declared.refusal.Refusal.TheVariants.{ShortOutput}

-- "byte pairs are swapped"; an odd last byte stays (the simulator's `swap_pairs`)
unfoldable pub swap_pairs : List ℕ → List ℕ
swap_pairs [] = []
swap_pairs (a ∷ []) = a ∷ []
swap_pairs (a ∷ b ∷ s) = b ∷ a ∷ swap_pairs s

-- `slc_string_swap`: an odd length is padded with a zero byte first
unfoldable pub padded_swap : List ℕ → List ℕ
padded_swap s = swap_pairs (s ++ replicate (length s % 2) 0)

-- bytes cut or padded to a length
unfoldable pub fitted : ℕ → ℕ → List ℕ → List ℕ
fitted n fill s = take n s ++ replicate (n - length s) fill

-- "A is cut or padded with spaces to 2 bytes"
unfoldable pub ascii_text : List ℕ → List ℕ
ascii_text s = swap_pairs (fitted 2 0x20 s)

-- "ST cut to 82 with a length word, zero-padded"
unfoldable pub string_text : List ℕ → List ℕ
string_text s = low_first 2 (length (take 82 s)) ++ swap_pairs (fitted 82 0 s)

-- what a call does that writes these bytes: 6, ShortOutput, where there is no room for them
abbrev pub in_room : List ℕ → List ℕ → Outcome
in_room bs out = cond (ltb (length out) (length bs)) (refused ShortOutput) (lays 0 bs)

-- what it answers, and the memory that it leaves
abbrev pub swapped_of : Outcome → Result ℕ Refusal
swapped_of (refused e) = Err e
swapped_of (lays at bs) = Ok (length bs)

abbrev pub written_of : List ℕ → List ℕ → Result ℕ Refusal
written_of bs out = swapped_of (in_room bs out)

abbrev pub out_of : List ℕ → List ℕ → List ℕ
out_of bs out = left (in_room bs out) out
