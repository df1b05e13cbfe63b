use Rattle.address_spec.specs.Spelling.{io}
use Rattle.address_spec.proofs.Forms.{no_form, finish, same_slot}
use Rattle.address_phrases.proofs.FormReaders.{forms}
use borrow.Author.Rules.{rules}
use Rattle.address_forms.proofs.parse_io.Goals as goal

pub returns-in_err-file_type : goal.returns-in_err-file_type
unfolding io
returns-in_err-file_type c = search (forms, no_form, c.in_err-file_type.was, rules) depth 8

pub returns-in_err-element_number : goal.returns-in_err-element_number
unfolding io
returns-in_err-element_number c = search (forms, no_form, c.in_ok-file_type.was, c.in_err-element_number.was, rules) depth 8

pub returns-in_err-pos : goal.returns-in_err-pos
unfolding io
returns-in_err-pos c = search (forms, no_form, c.in_ok-file_type.was, c.in_ok-element_number.was, c.in_err-pos.was, rules) depth 8

pub returns-in_err-sub : goal.returns-in_err-sub
unfolding io
returns-in_err-sub c = search (forms, no_form, c.in_ok-file_type.was, c.in_ok-element_number.was, c.in_ok-pos.was, c.in_err-sub.was, rules) depth 8

pub returns : goal.returns
unfolding io
returns c = search (forms, finish, same_slot, c.in_ok-file_type.was, c.in_ok-element_number.was, c.in_ok-pos.was, c.in_ok-sub.was, rules) depth 8
