use Rattle.request.proofs.RequestSent.{write_built}
use borrow.Author.Rules.{rules}
use Rattle.request.proofs.write_request.Goals as goal

pub returns : goal.returns
returns c =
    write_built _ _ c.in_ok-x.x c.parse_tag.ensures (search rules) c.bit_and_count.ensures (search rules) _ _ _ _ c.suits.ensures (search rules) c.size.ensures c.ok_or.ensures.value c.in_ok-size.size (search rules)
    {m = c.put_typed-n.new.out} {r = c.put_typed-n.result} (search rules)
    c.last_address.ensures c.place-p.ensures (search rules) (search rules) (search rules)
