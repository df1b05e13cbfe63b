-- Rows by computation, which show that the claims of the two readings aren't empty: T4:123PRE is retired, what is written
-- for it isn't, and what is written for T4:1éPRE is a byte shorter. A slash stays, a colon is retired, what no reading accepts is 2, and N7:0 is
-- written as it is. Separators stands on them, so that a must-fail edit of a definition
-- is refused here first, at the row that is false under it.
use Rattle.std.specs.Prelude.{None, Some, Ok, Err}
use mathlib.Core.Path.{◌≡◌, refl}
use Prim.Native.Nat.{ℕ}
use mathlib.Core.List.{List, [], ◌∷◌}
use mathlib.Core.Bool.{true, false}
use Rattle.base.specs.declared.refusal.Refusal.TheVariants.{NotAnAddress, RetiredSeparator}
use Rattle.base.specs.Chars.{bytes, spelled}
use Rattle.file_type.specs.declared.FileType.TheVariants.{T, C, N}
use Rattle.parser_spec.specs.DecimalNumbers.{digit_run, decimal, number_of}
use Rattle.parser_spec.specs.Parts.{then, at_end, or_else, ended, whole, here, any_byte, one, byte, numeral, digits, digits_in, after_byte, count_number, count_of, before_byte}
use Rattle.parser_spec.specs.Characters.{table, byte_in, bytes_in, point_in, character_in, characters, well_formed, letter_of, first_of}
use Rattle.address_spec.specs.Spelling.{address, file_before, optional_bit, bit_count, ct_names, name_in, cut, cuts, element_name, ct, lfbn, ignored, optional_position, slot, io, st_or_a, sta, status, bits, or_try, last_forms, form_of, address_of}
use Rattle.address_spec.specs.declared.Address.{Address}
use Rattle.address_readings.specs.declared.Reading.TheVariants.{New, Stored}
use Rattle.address_readings.specs.Readings.{element_digits, past_element, up_to_separator, separator, retired, address_in, dotted_timer, dotted, kept_in}

-- T4:1éPRE
abbrev acute : List ℕ
acute = 0x54 ∷ 0x34 ∷ 0x3A ∷ 0x31 ∷ 0xC3 ∷ 0xA9 ∷ bytes "PRE"

abbrev preset : ℕ → ℕ → Address
preset e k = address T 4 e None (Some 1) true 1 k

-- N7:0
abbrev word : Address
word = address N 7 0 None None false 1 4

pub rows : (address_in Stored (bytes "T4:123PRE") ∷ address_in New (bytes "T4:123PRE") ∷ address_in New (dotted (preset 12 9) (bytes "T4:123PRE")) ∷ address_in New (dotted (preset 1 9) acute)
    ∷ Ok (kept_in (dotted (preset 1 9) acute) (preset 1 9)) ∷ address_in New (dotted word (bytes "N7:0")) ∷ address_in New (bytes "C5:1/CU") ∷ address_in New (bytes "C5:1:CU") ∷ address_in New (bytes "T4:1:") ∷ [])
    ≡ (Ok (preset 12 9) ∷ Err RetiredSeparator ∷ Ok (preset 12 9) ∷ Ok (preset 1 8)
    ∷ Ok (preset 1 8) ∷ Ok word ∷ Ok (address C 5 1 None (Some 15) true 1 7) ∷ Err RetiredSeparator ∷ Err NotAnAddress ∷ [])
unfolding spelled digit_run decimal number_of then at_end or_else ended whole here any_byte one byte numeral digits digits_in table byte_in bytes_in point_in character_in characters well_formed letter_of first_of file_before ct_names name_in cut cuts element_name ct or_try form_of address_of element_digits past_element up_to_separator separator retired address_in dotted_timer dotted after_byte count_number count_of before_byte optional_bit bit_count lfbn ignored optional_position slot io st_or_a sta status bits last_forms
rows = refl
