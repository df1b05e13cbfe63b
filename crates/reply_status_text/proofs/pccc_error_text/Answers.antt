use Rattle.reply_status_text.proofs.StatusTexts.{code_told, no_text}
use borrow.Author.Rules.{rules}
use Rattle.reply_status_text.proofs.pccc_error_text.Goals as goal

pub returns-in-16 : goal.returns-in-16
returns-in-16 c = search (code_told 0x10, rules)

pub returns-in-32 : goal.returns-in-32
returns-in-32 c = search (code_told 0x20, rules)

pub returns-in-48 : goal.returns-in-48
returns-in-48 c = search (code_told 0x30, rules)

pub returns-in-64 : goal.returns-in-64
returns-in-64 c = search (code_told 0x40, rules)

pub returns-in-80 : goal.returns-in-80
returns-in-80 c = search (code_told 0x50, rules)

pub returns-in-96 : goal.returns-in-96
returns-in-96 c = search (code_told 0x60, rules)

pub returns-in-112 : goal.returns-in-112
returns-in-112 c = search (code_told 0x70, rules)

pub returns-in-128 : goal.returns-in-128
returns-in-128 c = search (code_told 0x80, rules)

pub returns-in-144 : goal.returns-in-144
returns-in-144 c = search (code_told 0x90, rules)

pub returns-in-240 : goal.returns-in-240
returns-in-240 c = search (code_told 0xF0, rules)

pub returns-in_default : goal.returns-in_default
returns-in_default c = no_text _ _ (search rules)
