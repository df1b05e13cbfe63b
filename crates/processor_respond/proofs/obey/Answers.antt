use Rattle.processor_respond.proofs.Obeying.{wants_bad, wants_diagnostic, wants_directory, wants_entry, wants_illegal, wants_read, wants_write}
use Rattle.processor_refinement.proofs.Replying.{told}
use borrow.Author.Rules.{rules}
use Rattle.processor_respond.proofs.obey.Goals as goal

pub returns-in-Illegal : goal.returns-in-Illegal
returns-in-Illegal c = search (wants_illegal, told, rules)

pub returns-in-Bad : goal.returns-in-Bad
returns-in-Bad c = search (wants_bad, told, rules)

pub returns-in-Diagnostic : goal.returns-in-Diagnostic
returns-in-Diagnostic c = search (wants_diagnostic, rules)

pub returns-in-Entry : goal.returns-in-Entry
returns-in-Entry c = search (wants_entry, rules)

pub returns-in-Directory : goal.returns-in-Directory
returns-in-Directory c = search (wants_directory, told, rules)

pub returns-in-Read : goal.returns-in-Read
returns-in-Read c = search (wants_read, rules)

pub returns-in-Write : goal.returns-in-Write
returns-in-Write c = search (wants_write, rules)
