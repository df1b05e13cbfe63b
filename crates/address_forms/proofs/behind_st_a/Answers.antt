use Rattle.address_spec.proofs.Forms.{no_form, finish, same}
use Rattle.address_phrases.proofs.FormReaders.{forms}
use borrow.Author.Rules.{rules}
use Rattle.address_forms.proofs.behind_st_a.Goals as goal

pub returns-in_err-file_number : goal.returns-in_err-file_number
returns-in_err-file_number c = search (forms, no_form, c.in_err-file_number.was, rules) depth 8

pub returns-in_err-element_number : goal.returns-in_err-element_number
returns-in_err-element_number c = search (forms, no_form, c.in_ok-file_number.was, c.in_err-element_number.was, rules) depth 8

pub returns-in_err-element_count : goal.returns-in_err-element_count
returns-in_err-element_count c = search (forms, no_form, c.in_ok-file_number.was, c.in_ok-element_number.was, c.in_err-element_count.was, rules) depth 8

pub returns : goal.returns
returns c = search (forms, finish, same, c.in_ok-file_number.was, c.in_ok-element_number.was, c.in_ok-element_count.was, rules) depth 8
