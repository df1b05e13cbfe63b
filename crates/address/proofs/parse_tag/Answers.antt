use Rattle.address_readings.proofs.ReadingAnswers.{stored_in, retired_in, kept_in_lem}
use borrow.Author.Rules.{rules}
use Rattle.address.proofs.parse_tag.Goals as goal

pub returns-in-New : goal.returns-in-New
returns-in-New c = search (retired_in, rules)

pub returns-in_default : goal.returns-in_default
returns-in_default c = search (kept_in_lem, rules)

pub returns-in_default-2 : goal.returns-in_default-2
returns-in_default-2 c = search (stored_in, rules)
