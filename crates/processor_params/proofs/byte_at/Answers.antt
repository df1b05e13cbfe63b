use Rattle.processor_params.proofs.HeaderReader.{no_byte, one_byte}
use borrow.Author.Rules.{rules}
use Rattle.processor_params.proofs.byte_at.Goals as goal

pub returns-then-bytes-pos : goal.returns-then-bytes-pos
returns-then-bytes-pos c = search (no_byte, rules)

pub returns : goal.returns
returns c = search (one_byte, rules)
