use Rattle.std.specs.Prelude.{Option}
use Rattle.file_type.specs.declared.FileType.{FileType}
use Prim.Native.Nat.{ℕ}
use mathlib.Core.List.{List}
use Rattle.link_types.specs.Types.{field_record, field_in}
use Rattle.link_types.proofs.TypeRecords.{beside}
use borrow.Author.Rules.{rules}
use Rattle.slc_link.proofs.file_types.slc_field_of.Goals as goal

pub returns : goal.returns
returns c = search (beside (λ (s : List ℕ) (k : Option FileType). field_record (field_in k s)), rules)
