use native.Mathlib.Omega.{arith}
use borrow.Author.Rules.{rules}
use Rattle.base.proofs.Put.{puts_full, puts_room}
use Rattle.text.proofs.Pairs.{hex_length}
use Rattle.text.proofs.hex.put_hex.Goals as goal

pub returns-then-out-at : goal.returns-then-out-at
returns-then-out-at c = puts_full _ (hex_length _) (omega arith)

pub returns : goal.returns
returns c = puts_room _ (hex_length _) (omega arith) (search rules)
