-- Rows by computation, for the must-fail edits of the spelling under which no law is false: where the longest element has no name behind it, a shorter one
-- is taken; I is file 1, whatever its digits; a bit that is counted across a file is the remainder by 16 in its word; a separator has the bytes of
-- its character.
use Rattle.std.specs.Prelude.{None, Some, Ok}
use mathlib.Core.Path.{◌≡◌, refl}
use Prim.Native.Nat.{ℕ}
use mathlib.Core.List.{List, [], ◌∷◌}
use mathlib.Core.Bool.{true, false}
use Rattle.base.specs.Chars.{bytes, spelled}
use Rattle.file_type.specs.declared.FileType.TheVariants.{I, B, T, C}
use Rattle.parser_spec.specs.DecimalNumbers.{digit_run, decimal, number_of}
use Rattle.parser_spec.specs.Parts.{then, at_end, or_else, ended, whole, here, any_byte, one, byte, numeral, digits, digits_in, after_byte, count_number, count_of, before_byte}
use Rattle.parser_spec.specs.Characters.{table, byte_in, bytes_in, point_in, character_in, characters, well_formed, letter_of, first_of}
use Rattle.address_spec.specs.Spelling.{address, file_before, optional_bit, bit_count, ct_names, name_in, cut, cuts, element_name, ct, lfbn, ignored, optional_position, slot, io, st_or_a, sta, status, bits, or_try, last_forms, form_of, address_of}

-- T4:1éPRE
abbrev acute : List ℕ
acute = 0x54 ∷ 0x34 ∷ 0x3A ∷ 0x31 ∷ 0xC3 ∷ 0xA9 ∷ bytes "PRE"

rows : (address_of (bytes "C5:107EN") ∷ address_of (bytes "I999:0") ∷ address_of (bytes "B3/18") ∷ address_of acute ∷ [])
    ≡ (Ok (address C 5 10 None (Some 15) true 1 8) ∷ Ok (address I 1 0 (Some 0) (Some 0) false 1 6) ∷ Ok (address B 3 1 None (Some 2) true 1 5)
    ∷ Ok (address T 4 1 None (Some 1) true 1 9) ∷ [])
unfolding digit_run decimal number_of then at_end or_else ended whole here any_byte one byte numeral digits digits_in after_byte table byte_in bytes_in point_in character_in characters well_formed letter_of first_of count_number count_of before_byte spelled file_before optional_bit bit_count ct_names name_in cut cuts element_name ct lfbn ignored optional_position slot io st_or_a sta status bits or_try last_forms form_of address_of
rows = refl
