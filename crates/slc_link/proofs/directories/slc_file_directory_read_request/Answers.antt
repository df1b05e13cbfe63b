use Rattle.link_texts.proofs.TextAnswers.{sends}
use borrow.Author.Rules.{rules}
use Rattle.slc_link.proofs.directories.slc_file_directory_read_request.Goals as goal

pub returns : goal.returns
returns c = search (sends, rules)
