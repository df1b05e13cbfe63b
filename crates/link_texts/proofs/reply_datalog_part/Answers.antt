use Rattle.link_texts.proofs.LaidTexts.{reply_entry_fits, reply_entry_part}
use borrow.Author.Rules.{rules}
use Rattle.link_texts.proofs.reply_datalog_part.Goals as goal

pub end_part-requires : goal.end_part-requires
end_part-requires c = search (reply_entry_fits, rules)

pub returns : goal.returns
returns c = search (reply_entry_part, rules)
