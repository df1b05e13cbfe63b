use Rattle.request.proofs.RequestSent.{read_built}
use borrow.Author.Rules.{rules}
use Rattle.request.proofs.read_request.Goals as goal

pub returns : goal.returns
returns c =
    read_built _ _ c.in_ok-x.x c.parse_tag.ensures (search rules) c.bit_and_count.ensures (search rules) _ _ c.read_size.ensures c.ok_or.ensures.value c.in_ok-size.size (search rules) (search rules) c.unwrap_or.ensures c.place-p.ensures
    (search rules) (search rules)
