-- Rows by computation. The order of the questions, where two that are asked one after the other are both answered with no: 3 before 4, 5 before 6.
-- What suits PRE and where a write to it points; how many bytes are too many.
use Rattle.std.specs.Prelude.{None, Some}
use mathlib.Core.Path.{◌≡◌, refl}
use mathlib.Core.List.{[], ◌∷◌}
use mathlib.Core.Bool.{true, false}
use Rattle.base.specs.declared.refusal.Refusal.TheVariants.{BitWithCount, UnsuitableValue, SizeOutOfRange}
use Rattle.file_type.specs.declared.FileType.TheVariants.{T, N}
use Rattle.address_spec.specs.declared.Address.{Address}
use Rattle.address_spec.specs.Spelling.{address}
use Rattle.request_frame.specs.RequestFrame.{default_requestor}
use Rattle.request_spec.specs.SizeAnswers.{size_of, data_size_of}
use Rattle.request_spec.specs.Request.{refused, bit_and_count, read_size, read_address, preset_or_accum, bit_suits, suits, supplied, last_address, write_data, write_address}
use Rattle.request_spec.specs.declared.WriteValue.TheVariants as value

-- T4:0.PRE
abbrev preset : Address
preset = address T 4 0 None (Some 1) true 1 8

-- text on N7:0/3{2}; N7:0{128} into 26 bytes; no raw byte on N7:0 into 283; true on T4:0.PRE
pub rows :
    (write_address value.Text [] default_requestor 0 284 (address N 7 0 None (Some 3) true 2 6)
    ∷ read_address default_requestor 0 26 (address N 7 0 None None false 128 4)
    ∷ write_address value.Raw [] default_requestor 0 283 (address N 7 0 None None false 1 4)
    ∷ write_address (value.Bool true) [] default_requestor 0 284 preset
    ∷ [])
    ≡ (refused BitWithCount ∷ refused SizeOutOfRange ∷ refused SizeOutOfRange ∷ refused UnsuitableValue ∷ [])
unfolding bit_and_count read_size read_address preset_or_accum bit_suits suits supplied write_data write_address
rows = refl

pub preset_is_1 : last_address preset ≡ 1
unfolding preset_or_accum last_address
preset_is_1 = refl

-- a read of 255 and of 256 bytes; 1, 2, 257 and 258 raw bytes
pub sizes : (size_of 255 ∷ size_of 256 ∷ data_size_of 1 ∷ data_size_of 2 ∷ data_size_of 257 ∷ data_size_of 258 ∷ []) ≡ (Some 255 ∷ None ∷ None ∷ Some 0 ∷ Some 255 ∷ None ∷ [])
sizes = refl
