use Rattle.address_spec.specs.Spelling.{sta}
use Rattle.address_spec.proofs.Forms.{no_form, go_on}
use Rattle.address_phrases.proofs.FormReaders.{forms}
use borrow.Author.Rules.{rules}
use Rattle.address_forms.proofs.parse_st_a.Goals as goal

pub returns-in_err-file_type : goal.returns-in_err-file_type
unfolding sta
returns-in_err-file_type g c = search (forms, no_form, c.in_err-file_type.was, rules) depth 8

pub returns : goal.returns
unfolding sta
returns g c = search (forms, go_on, c.in_ok-file_type.was, rules) depth 8
