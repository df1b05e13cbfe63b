use Rattle.processor_element_core.proofs.ReadAndSet.{set_past, set_short, set_done}
use borrow.Author.Rules.{rules}
use Rattle.processor_element_core.proofs.set_at.Goals as goal

pub returns-then-memory-at : goal.returns-then-memory-at
returns-then-memory-at c = search (set_past, rules)

pub returns-then-memory-at-2 : goal.returns-then-memory-at-2
returns-then-memory-at-2 c = search (set_short, rules)

pub returns : goal.returns
returns c = set_done _ _ _ _ _ _ c.element_size-size.ensures c.if-memory-at.false c.if-memory-at-2.false _ _ c.encode_element.ensures (search rules)
