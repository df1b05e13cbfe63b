use mathlib.Core.Path.{refl}
use Rattle.base.proofs.Chars.{spelled_short, spelled_end, spelled_off, spelled_on}
use borrow.Author.Rules.{rules}
use Rattle.base.proofs.spells.Goals as goal

pub returns-then-s-name : goal.returns-then-s-name
returns-then-s-name c = search (spelled_short, rules)

pub loop-i-init : goal.loop-i-init
loop-i-init c = refl

pub returns-then-letter-a : goal.returns-then-letter-a
returns-then-letter-a c = search (spelled_off, rules)

pub loop-i-preserved : goal.loop-i-preserved
loop-i-preserved c = spelled_on _ _ _ _ c.if-s-name.false c.loop-i.invariant _ c.loop-i-test.true c.letter.ensures c.if-letter-a.false

pub returns : goal.returns
returns c = search (spelled_end, rules)
