use Rattle.link_texts.proofs.TextAnswers.{says}
use borrow.Author.Rules.{rules}
use Rattle.slc_link.proofs.replies.slc_request_status.Goals as goal

pub returns : goal.returns
returns c = search (says, rules)
