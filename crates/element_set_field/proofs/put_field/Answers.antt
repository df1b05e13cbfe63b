use Rattle.element_set_field.proofs.SetField.{field_bit}
use borrow.Author.Rules.{rules}
use Rattle.element_set_field.proofs.put_field.Goals as goal

pub returns-in-Bit : goal.returns-in-Bit
returns-in-Bit c = search (field_bit, rules)
