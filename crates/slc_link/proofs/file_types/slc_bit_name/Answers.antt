use Rattle.std.specs.Prelude.{Option}
use Rattle.file_type.specs.declared.FileType.{FileType}
use Prim.Native.Nat.{ℕ}
use Rattle.link_types.specs.Types.{name_record, bit_name_in}
use Rattle.link_types.proofs.TypeRecords.{beside}
use borrow.Author.Rules.{rules}
use Rattle.slc_link.proofs.file_types.slc_bit_name.Goals as goal

pub returns : goal.returns
returns c = search (beside (λ (i : ℕ) (k : Option FileType). name_record (bit_name_in k i)), rules)
