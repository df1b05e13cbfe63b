use Rattle.link_types.specs.Types.{type_record}
use Rattle.link_types.proofs.TypeRecords.{through}
use borrow.Author.Rules.{rules}
use Rattle.slc_link.proofs.file_types.slc_type_of_name.Goals as goal

pub returns : goal.returns
returns c = search (through type_record, rules)
