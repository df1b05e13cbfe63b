use Rattle.link_requests.proofs.RequestAnswers.{reads_tag}
use borrow.Author.Rules.{rules}
use Rattle.slc_link.proofs.requests.slc_parse_tag.Goals as goal

pub returns : goal.returns
returns c = search (reads_tag, rules)
