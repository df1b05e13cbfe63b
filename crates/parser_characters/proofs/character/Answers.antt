use native.Mathlib.Omega.{arith}
use Rattle.parser_spec.specs.Characters.{table}
use Rattle.parser_characters.proofs.CharacterReaders.{character_end, small, by_row, between, behind}
use borrow.Author.Rules.{rules}
use Rattle.parser_characters.proofs.character.Goals as goal

pub returns-then-s-i : goal.returns-then-s-i
unfolding table
returns-then-s-i c = search (character_end, rules)

pub returns-in-224 : goal.returns-in-224
unfolding table
returns-in-224 c = by_row _ _ (omega arith) 2 _ _ (omega arith) (omega arith) (omega arith) c.bytes_behind.ensures

pub returns-in-237 : goal.returns-in-237
unfolding table
returns-in-237 c = by_row _ _ (omega arith) 4 _ _ (omega arith) (omega arith) (omega arith) c.bytes_behind-in-237.ensures

pub returns-in-240 : goal.returns-in-240
unfolding table
returns-in-240 c = by_row _ _ (omega arith) 6 _ _ (omega arith) (omega arith) (omega arith) c.bytes_behind-in-240.ensures

pub returns-in-244 : goal.returns-in-244
unfolding table
returns-in-244 c = by_row _ _ (omega arith) 8 _ _ (omega arith) (omega arith) (omega arith) c.bytes_behind-in-244.ensures

pub returns-in-0-to-127 : goal.returns-in-0-to-127
unfolding table
returns-in-0-to-127 c = search (small, rules)

pub returns-in-194-to-223 : goal.returns-in-194-to-223
unfolding table
returns-in-194-to-223 c = by_row _ _ (omega arith) 1 _ _ (omega arith) (omega arith) (omega arith) c.bytes_behind-in-194-to-223.ensures

pub returns-in-225-to-236 : goal.returns-in-225-to-236
unfolding table
returns-in-225-to-236 c = by_row _ _ (omega arith) 3 _ _ (omega arith) (omega arith) (omega arith) c.bytes_behind-in-225-to-236.ensures

pub returns-in-238-to-239 : goal.returns-in-238-to-239
unfolding table
returns-in-238-to-239 c = by_row _ _ (omega arith) 5 _ _ (omega arith) (omega arith) (omega arith) c.bytes_behind-in-238-to-239.ensures

pub returns-in-241-to-243 : goal.returns-in-241-to-243
unfolding table
returns-in-241-to-243 c = by_row _ _ (omega arith) 7 _ _ (omega arith) (omega arith) (omega arith) c.bytes_behind-in-241-to-243.ensures

pub returns-in_default : goal.returns-in_default
unfolding table
returns-in_default c = search (between, rules)

pub returns-in_default-2 : goal.returns-in_default-2
unfolding table
returns-in_default-2 c = search (behind, rules)
