use Rattle.address_spec.specs.Spelling.{bits}
use Rattle.address_spec.proofs.Forms.{no_form, finish, same}
use Rattle.address_phrases.proofs.FormReaders.{forms}
use borrow.Author.Rules.{rules}
use Rattle.address_forms.proofs.parse_b.Goals as goal

pub returns-in_err-c1 : goal.returns-in_err-c1
unfolding bits
returns-in_err-c1 c = search (forms, no_form, c.in_err-c1.was, rules) depth 8

pub returns-in_err-file_number : goal.returns-in_err-file_number
unfolding bits
returns-in_err-file_number c = search (forms, no_form, c.in_ok-c1.was, c.in_err-file_number.was, rules) depth 8

pub returns-in_err-bit : goal.returns-in_err-bit
unfolding bits
returns-in_err-bit c = search (forms, no_form, c.in_ok-c1.was, c.in_ok-file_number.was, c.in_err-bit.was, rules) depth 8

pub returns-in_err-element_count : goal.returns-in_err-element_count
unfolding bits
returns-in_err-element_count c = search (forms, no_form, c.in_ok-c1.was, c.in_ok-file_number.was, c.in_ok-bit.was, c.in_err-element_count.was, rules) depth 8

pub returns : goal.returns
unfolding bits
returns c = search (forms, finish, same, c.in_ok-c1.was, c.in_ok-file_number.was, c.in_ok-bit.was, c.in_ok-element_count.was, rules) depth 8
