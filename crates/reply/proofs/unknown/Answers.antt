use native.Mathlib.Omega.{arith}
use Rattle.reply_status_text.proofs.StatusTexts.{told}
use Rattle.reply.proofs.Status.{hex_length}
use borrow.Author.Rules.{rules}
use Rattle.reply.proofs.unknown.Goals as goal

pub lay_hex-requires : goal.lay_hex-requires
lay_hex-requires c = rw hex_length (omega arith)

pub returns : goal.returns
returns c = search (told, rules)
