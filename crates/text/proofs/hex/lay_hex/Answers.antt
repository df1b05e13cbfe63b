use borrow.Author.Rules.{rules}
use Rattle.text.proofs.Pairs.{two_kept, hex_turn, hex_done}
use Rattle.text.proofs.hex.lay_hex.Goals as goal

pub loop-b-preserved : goal.loop-b-preserved
loop-b-preserved c = search (two_kept, hex_turn, rules)

pub returns : goal.returns
returns c = search (hex_done, rules)
