-- The records of a file type, of a name and of what a name stands for.
use Rattle.std.specs.Prelude.{ℕ, ◌-◌, Bool, cond, List, [], ◌++◌, length, get_or, replicate, Option, None, Some}
use Rattle.file_type.specs.declared.Field.{Field}
use Rattle.file_type.specs.declared.Field.TheVariants as field
use Rattle.file_type.specs.declared.FileType.{FileType}
use Rattle.file_type.specs.Table.{row, bit_names, word_names, of_field}
use Rattle.link_types.specs.declared.SlcField.{SlcField}
use Rattle.link_types.specs.declared.SlcFileType.{SlcFileType}
use Rattle.link_types.specs.declared.SlcName.{SlcName}

-- 1 for yes, 0 for no
abbrev pub flag : Bool → ℕ
flag b = cond b 1 0

-- a name in three bytes, with zeros behind it
abbrev pub name_record : List ℕ → SlcName
name_record s = record { len = length s; text = s ++ replicate (3 - length s) 0 }

unfoldable pub known_type : FileType → SlcFileType
known_type t = record {
  known = 1;
  code = (row t).code;
  element_size = (row t).size;
  simulated = flag (row t).simulated;
  bits = length (bit_names t);
  name_len = length (row t).name;
  name = (name_record (row t).name).text;
}

-- all is 0 where the type is not known
abbrev pub type_record : Option FileType → SlcFileType
type_record (Some t) = known_type t
type_record None = record { known = 0; code = 0; element_size = 0; simulated = 0; bits = 0; name_len = 0; name = replicate 3 0 }

-- the names of a type's status bits, from bit 15 down, and of its words 1 and 2; none where there is no such type
abbrev pub bit_name_in : Option FileType → ℕ → List ℕ
bit_name_in (Some t) i = get_or (bit_names t) i []
bit_name_in None i = []

abbrev pub word_name_in : Option FileType → ℕ → List ℕ
word_name_in (Some t) i = get_or (word_names t) i []
word_name_in None i = []

abbrev pub field_in : Option FileType → List ℕ → Option Field
field_in (Some t) s = of_field t s
field_in None s = None

-- words and bits are counted as their names are
abbrev pub field_record : Option Field → SlcField
field_record (Some (field.Word i)) = record { kind = 1; index = i }
field_record (Some (field.Bit i)) = record { kind = 2; index = i }
field_record None = record { kind = 0; index = 0 }
