use Rattle.link_texts.proofs.TextAnswers.{sends}
use borrow.Author.Rules.{rules}
use Rattle.slc_link.proofs.requests.slc_processor_type_request.Goals as goal

pub returns : goal.returns
returns c = search (sends, rules)
