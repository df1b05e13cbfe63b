use Rattle.processor_frame.proofs.DiagnosticData.{status_data}
use borrow.Author.Rules.{rules}
use Rattle.processor_frame.proofs.diagnostic.Goals as goal

pub returns : goal.returns
returns c = search (status_data, rules)
