use Rattle.link_texts.specs.WrittenRecords.{size_record}
use Rattle.link_types.proofs.TypeRecords.{through}
use borrow.Author.Rules.{rules}
use Rattle.slc_link.proofs.directories.slc_parse_file_directory_size.Goals as goal

pub returns : goal.returns
returns c = search (through size_record, rules)
