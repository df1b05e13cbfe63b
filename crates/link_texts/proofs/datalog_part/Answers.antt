use Rattle.link_texts.proofs.LaidTexts.{entry_fits, entry_part}
use borrow.Author.Rules.{rules}
use Rattle.link_texts.proofs.datalog_part.Goals as goal

pub end_part-requires : goal.end_part-requires
end_part-requires c = search (entry_fits, rules)

pub returns : goal.returns
returns c = search (entry_part, rules)
