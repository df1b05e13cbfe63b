use Rattle.address_spec.specs.Spelling.{status}
use Rattle.address_spec.proofs.Forms.{no_form, finish, same}
use Rattle.address_phrases.proofs.FormReaders.{forms}
use borrow.Author.Rules.{rules}
use Rattle.address_forms.proofs.parse_s.Goals as goal

pub returns-in_err-c1 : goal.returns-in_err-c1
unfolding status
returns-in_err-c1 c = search (forms, no_form, c.in_err-c1.was, rules) depth 8

pub returns-in_err-c2 : goal.returns-in_err-c2
unfolding status
returns-in_err-c2 c = search (forms, no_form, c.in_ok-c1.was, c.in_err-c2.was, rules) depth 8

pub returns-in_err-element_number : goal.returns-in_err-element_number
unfolding status
returns-in_err-element_number c = search (forms, no_form, c.in_ok-c1.was, c.in_ok-c2.was, c.in_err-element_number.was, rules) depth 8

pub returns-in_err-sub_element : goal.returns-in_err-sub_element
unfolding status
returns-in_err-sub_element c = search (forms, no_form, c.in_ok-c1.was, c.in_ok-c2.was, c.in_ok-element_number.was, c.in_err-sub_element.was, rules) depth 8

pub returns : goal.returns
unfolding status
returns c = search (forms, finish, same, c.in_ok-c1.was, c.in_ok-c2.was, c.in_ok-element_number.was, c.in_ok-sub_element.was, rules) depth 8
