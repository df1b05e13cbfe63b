use Rattle.address_spec.specs.Spelling.{ct}
use Rattle.parser.proofs.PartReaders.{above, at_most}
use Rattle.address_spec.proofs.Forms.{no_form, a_form}
use Rattle.address_phrases.proofs.FormReaders.{forms}
use borrow.Author.Rules.{rules}
use Rattle.address_forms.proofs.parse_ct.Goals as goal

pub returns-in_err-file_type : goal.returns-in_err-file_type
unfolding ct
returns-in_err-file_type c = search (forms, no_form, c.in_err-file_type.was, rules) depth 8

pub returns-in_err-file_number : goal.returns-in_err-file_number
unfolding ct
returns-in_err-file_number c = search (forms, no_form, c.in_ok-file_type.was, c.in_err-file_number.was, rules) depth 8

pub returns-in_err-element : goal.returns-in_err-element
unfolding ct
returns-in_err-element c = search (forms, no_form, c.in_ok-file_type.was, c.in_ok-file_number.was, c.in_err-element.was, rules) depth 8

pub returns-then-element-gt255 : goal.returns-then-element-gt255
unfolding ct
returns-then-element-gt255 c = search (forms, no_form, above, c.in_ok-file_type.was, c.in_ok-file_number.was, c.in_ok-element.was, rules) depth 8

pub returns : goal.returns
unfolding ct
returns c = search (forms, a_form, at_most, c.in_ok-file_type.was, c.in_ok-file_number.was, c.in_ok-element.was, rules) depth 8
