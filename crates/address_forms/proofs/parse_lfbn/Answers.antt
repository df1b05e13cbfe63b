use Rattle.address_spec.specs.Spelling.{lfbn}
use Rattle.address_spec.proofs.Forms.{no_form, finish, same}
use Rattle.address_phrases.proofs.FormReaders.{forms}
use borrow.Author.Rules.{rules}
use Rattle.address_forms.proofs.parse_lfbn.Goals as goal

pub returns-in_err-file_type : goal.returns-in_err-file_type
unfolding lfbn
returns-in_err-file_type c = search (forms, no_form, c.in_err-file_type.was, rules) depth 8

pub returns-in_err-file_number : goal.returns-in_err-file_number
unfolding lfbn
returns-in_err-file_number c = search (forms, no_form, c.in_ok-file_type.was, c.in_err-file_number.was, rules) depth 8

pub returns-in_err-element_number : goal.returns-in_err-element_number
unfolding lfbn
returns-in_err-element_number c = search (forms, no_form, c.in_ok-file_type.was, c.in_ok-file_number.was, c.in_err-element_number.was, rules) depth 8

pub returns-in_err-sub_element : goal.returns-in_err-sub_element
unfolding lfbn
returns-in_err-sub_element c = search (forms, no_form, c.in_ok-file_type.was, c.in_ok-file_number.was, c.in_ok-element_number.was, c.in_err-sub_element.was, rules) depth 8

pub returns : goal.returns
unfolding lfbn
returns c = search (forms, finish, same, c.in_ok-file_type.was, c.in_ok-file_number.was, c.in_ok-element_number.was, c.in_ok-sub_element.was, rules) depth 8
