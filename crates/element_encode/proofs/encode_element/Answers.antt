use Rattle.element_spec.specs.declared.kind.ElementKind.TheVariants as kind
use Rattle.element_spec.proofs.ByKind.{set_by_lem}
use Rattle.element_encode.proofs.EncodeAnswers.{on_words}
use borrow.Author.Rules.{rules}
use Rattle.element_encode.proofs.encode_element.Goals as goal

pub returns-in-Fields-Words : goal.returns-in-Fields-Words
returns-in-Fields-Words c = search (set_by_lem kind.Fields, on_words, rules)
