use Rattle.link_texts.proofs.TextAnswers.{lists}
use borrow.Author.Rules.{rules}
use Rattle.slc_link.proofs.directories.slc_parse_file_directory.Goals as goal

pub returns : goal.returns
returns c = search (lists, rules)
