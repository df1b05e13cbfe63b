use native.Mathlib.Omega.{arith}
use Rattle.base.proofs.Numbers.{low_length}
use Rattle.base.proofs.Put.{puts_full, puts_room}
use borrow.Author.Rules.{rules}
use Rattle.base.proofs.put_number.Goals as goal

pub returns-then-out-at : goal.returns-then-out-at
returns-then-out-at c = puts_full _ (low_length _ _) (omega arith)

pub returns : goal.returns
returns c = puts_room _ (low_length _ _) (omega arith) (search rules)
