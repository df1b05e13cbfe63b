use mathlib.Core.Path.{refl}
use native.Mathlib.Omega.{arith}
use borrow.Author.Rules.{rules}
use Rattle.text.proofs.Pairs.{one_kept, pairs_turn, pairs_done}
use Rattle.text.proofs.hex.lay_pairs.Goals as goal

pub loop-i-preserved : goal.loop-i-preserved
loop-i-preserved c = search (one_kept, pairs_turn, rules)

pub returns : goal.returns
returns c = pairs_done _ _ _ c.loop-i.i c.requires.0 c.loop-i.invariant.1 _ (omega arith) refl
