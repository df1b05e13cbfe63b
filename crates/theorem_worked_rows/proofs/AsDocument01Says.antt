-- Every worked row comes to what document 01 says, by computation.
use mathlib.Core.Path.{◌≡◌, refl}
use mathlib.Core.List.{map}
use Rattle.base.specs.Chars.{spelled}
use Rattle.base.specs.Numbers.{low_first, number}
use Rattle.base.specs.Put.{put}
use Rattle.parser_spec.specs.DecimalNumbers.{digit_run, decimal, number_of}
use Rattle.parser_spec.specs.Parts.{then, at_end, or_else, ended, whole, here, any_byte, one, byte, numeral, digits, digits_in, after_byte, count_number, count_of, before_byte}
use Rattle.parser_spec.specs.Characters.{table, byte_in, bytes_in, point_in, character_in, characters, well_formed, letter_of, first_of}
use Rattle.element_text.specs.Text.{swap_pairs, fitted, ascii_text, string_text}
use Rattle.address_spec.specs.Spelling.{file_before, optional_bit, bit_count, ct_names, name_in, cut, cuts, element_name, ct, lfbn, ignored, optional_position, slot, io, st_or_a, sta, status, bits, or_try, last_forms, form_of, address_of}
use Rattle.address_readings.specs.Readings.{address_in}
use Rattle.request_frame.specs.RequestFrame.{identity, command_head, address_field, two_addresses, three_addresses, typed}
use Rattle.request_spec.specs.Request.{bit_and_count, read_size, read_message, read_address, on_address, preset_or_accum, bit_suits, text_suits, suits, bit_data, text_data, supplied, last_address, write_message, write_data, write_address}
use Rattle.processor_spec.specs.Worked.{all, built, command, told, call}
use Rattle.theorem_worked_rows.specs.Worked.{w9, w10, w11, Row, worked}

pub as_document_01_says : map (λ (r : Row). r.given) worked ≡ map (λ (r : Row). r.said) worked
unfolding spelled low_first number put digit_run decimal number_of then at_end or_else ended whole here any_byte one byte numeral digits digits_in after_byte table byte_in bytes_in point_in character_in characters well_formed letter_of first_of count_number count_of before_byte swap_pairs fitted ascii_text string_text file_before optional_bit bit_count ct_names name_in cut cuts element_name ct lfbn ignored optional_position slot io st_or_a sta status bits or_try last_forms form_of address_of address_in identity command_head address_field two_addresses three_addresses typed bit_and_count read_size read_message read_address on_address preset_or_accum bit_suits text_suits suits bit_data text_data supplied last_address write_message write_data write_address all built command told call w9 w10 w11 worked
as_document_01_says = refl
