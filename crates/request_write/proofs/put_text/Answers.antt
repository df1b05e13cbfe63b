use Rattle.request_spec.proofs.Supplied.{ascii_laid}
use borrow.Author.Rules.{rules}
use Rattle.request_write.proofs.put_text.Goals as goal

pub returns-then-ascii : goal.returns-then-ascii
returns-then-ascii c = search (ascii_laid, rules)
