use Rattle.address_dotted.proofs.Dotting.{dots_fit, dots_written}
use borrow.Author.Rules.{rules}
use Rattle.address_dotted.proofs.dotted.Goals as goal

pub put_dotted-requires : goal.put_dotted-requires
put_dotted-requires c = search (dots_fit, rules)

pub returns : goal.returns
returns c = dots_written _ _ _ c.parse_tag.ensures c.in_ok-x.x (search rules) (search rules) (search rules)
