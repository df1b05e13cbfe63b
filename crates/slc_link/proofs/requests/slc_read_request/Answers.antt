use Rattle.link_requests.proofs.RequestAnswers.{asks_reading}
use borrow.Author.Rules.{rules}
use Rattle.slc_link.proofs.requests.slc_read_request.Goals as goal

pub returns : goal.returns
returns c = search (asks_reading, rules)
