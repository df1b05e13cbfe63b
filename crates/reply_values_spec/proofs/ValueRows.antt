-- Rows by computation of what no other law tells: which of two questions comes first, and the Rust's odd cases of the last part, of a bit, of PRE and of a text that is cut.
use mathlib.Core.Path.{◌≡◌, refl}
use mathlib.Core.List.{[], ◌∷◌}
use mathlib.Core.Bool.{true, false}
use lib.IntN.{pos, negsuc}
use Rattle.std.specs.Prelude.{Ok, Err}
use Rattle.base.specs.declared.refusal.Refusal.TheVariants.{ShortTextMemory, UnreadableReply, NoSuchValue}
use Rattle.base.specs.Numbers.{number}
use Rattle.element_text.specs.Text.{swap_pairs, padded_swap}
use Rattle.file_type.specs.declared.FileType.TheVariants.{N, F, L, T, ST, A}
use Rattle.reply_values_spec.specs.Values.{word, bit, text, decoded, parts_in, collect, bit_at, bit_value, values_of, value_at, asked}

-- N7:0 of FFFF; of no byte; of 010203, also past its end; of 0102 past its end; A9:0 of 61 into 81 bytes and into 82, and past its end; ST9:0 of 1 byte, and of a length word
-- of 5 with three bytes behind it; T4:0.PRE and T4:0.ACC of 0000 0500 0600, T4:0.ACC of 5 bytes; L9:0/3 of 08000000 and of 080000; F8:0/3
pub rows :
    (asked 0 0 (values_of N false 0 (0xFF ∷ 0xFF ∷ []))
    ∷ asked 0 0 (values_of N false 0 [])
    ∷ asked 0 0 (values_of N false 0 (1 ∷ 2 ∷ 3 ∷ []))
    ∷ asked 2 0 (values_of N false 0 (1 ∷ 2 ∷ 3 ∷ []))
    ∷ asked 1 0 (values_of N false 0 (1 ∷ 2 ∷ []))
    ∷ asked 0 81 (values_of A false 0 (0x61 ∷ []))
    ∷ asked 0 82 (values_of A false 0 (0x61 ∷ []))
    ∷ asked 1 81 (values_of A false 0 (0x61 ∷ []))
    ∷ asked 0 82 (values_of ST false 0 (5 ∷ []))
    ∷ asked 0 82 (values_of ST false 0 (5 ∷ 0 ∷ 0x62 ∷ 0x61 ∷ 0x63 ∷ []))
    ∷ asked 0 0 (values_of T true 1 (0 ∷ 0 ∷ 5 ∷ 0 ∷ 6 ∷ 0 ∷ []))
    ∷ asked 0 0 (values_of T true 2 (0 ∷ 0 ∷ 5 ∷ 0 ∷ 6 ∷ 0 ∷ []))
    ∷ asked 0 0 (values_of T true 2 (0 ∷ 0 ∷ 5 ∷ 0 ∷ 6 ∷ []))
    ∷ asked 0 0 (values_of L true 3 (8 ∷ 0 ∷ 0 ∷ 0 ∷ []))
    ∷ asked 0 0 (values_of L true 3 (8 ∷ 0 ∷ 0 ∷ []))
    ∷ asked 0 0 (values_of F true 3 (8 ∷ 0 ∷ 0 ∷ 0 ∷ []))
    ∷ [])
    ≡ (Ok (word (negsuc 0), 1)
    ∷ Err UnreadableReply
    ∷ Err UnreadableReply
    ∷ Err UnreadableReply
    ∷ Err NoSuchValue
    ∷ Err ShortTextMemory
    ∷ Ok (text (0 ∷ 0x61 ∷ []), 1)
    ∷ Err NoSuchValue
    ∷ Err UnreadableReply
    ∷ Ok (text (0x61 ∷ 0x62 ∷ 0 ∷ 0x63 ∷ []), 1)
    ∷ Ok (word (pos 5), 1)
    ∷ Ok (word (pos 6), 1)
    ∷ Err UnreadableReply
    ∷ Ok (bit true, 1)
    ∷ Err UnreadableReply
    ∷ Err UnreadableReply
    ∷ [])
unfolding number swap_pairs padded_swap decoded parts_in collect bit_at bit_value values_of value_at
rows = refl
