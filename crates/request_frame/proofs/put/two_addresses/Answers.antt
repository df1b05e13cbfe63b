use native.Mathlib.Omega.{arith}
use Rattle.request_frame.proofs.Laid.{two_short, two_laid}
use borrow.Author.Rules.{rules}
use Rattle.request_frame.proofs.put.two_addresses.Goals as goal
use Rattle.request_frame.proofs.put.two_addresses.Goals.{then-out-at-via-then-out-at, then-out-at-via-else-out-at+then-out-at-2}

pub returns-then-out-at : goal.returns-then-out-at
returns-then-out-at c =
    two_short _ _ _ _ _ c.field_len.ensures c.field_len-2.ensures
    (elim c.then-out-at.branch [
      | then-out-at-via-then-out-at w ↦ omega (arith, w.if-out-at.true)
      | then-out-at-via-else-out-at+then-out-at-2 w ↦ omega (arith, w.if-out-at.false, w.if-out-at-2.true)
    ])

pub returns : goal.returns
returns c = search (two_laid, rules)
