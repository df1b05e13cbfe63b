use Rattle.link_requests.proofs.RequestAnswers.{asks_kind, asks_none}
use borrow.Author.Rules.{rules}
use Rattle.slc_link.proofs.requests.slc_write_request.Goals as goal

pub returns-in-Some : goal.returns-in-Some
returns-in-Some c = search (asks_kind, rules)

pub returns-in-None : goal.returns-in-None
returns-in-None c = search (asks_none, rules)
