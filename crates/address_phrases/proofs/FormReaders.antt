-- Laws by which the forms' readers are proved, beside those of parser/PartReaders.
use Rattle.std.specs.Prelude.{Option, None, Some}
use Prim.Native.Nat.{ℕ}
use mathlib.Core.Path.{◌≡◌}
use mathlib.Core.List.{List, []}
use mathlib.Core.Bool.{Bool, true, false}
use lib.ListN.{drop}
use Rattle.file_type.specs.declared.FileType.{FileType}
use Rattle.parser_spec.specs.Parts.{Part, then}
use Rattle.parser_spec.specs.Characters.{utf8}
use Rattle.parser.specs.CursorAnswers.{placed}
use Rattle.parser.specs.declared.Cur.{Cur}
use Rattle.parser.proofs.PartReaders.{reading, answering}
use Rattle.address_spec.proofs.PhrasesLeave.{file_leaves, bit_leaves, bit_count_leaves, ignored_leaves, slot_leaves, position_leaves, st_or_a_leaves}
use Rattle.address_spec.specs.ReaderAnswers.{to_the_end}
use Rattle.address_spec.specs.Spelling.{st_or_a}

-- the letters of ST and A
module _ (st : Bool) (s : List ℕ) (i : ℕ) (q : Option (FileType × Cur)) where
  pub a_at : st ≡ false → q ≡ placed i s (st_or_a utf8 false (drop i s)) → q ≡ placed i s (st_or_a utf8 st (drop i s))
  a_at e h = rw e h

  pub st_at : st ≡ true → q ≡ placed i s (st_or_a utf8 true (drop i s)) → q ≡ placed i s (st_or_a utf8 st (drop i s))
  st_at e h = rw e h

-- a value that is read with all the rest
module _ {A B : Type 0} (x : Option (A × List ℕ)) (r : Option A) (k : A → Part B) (e : x ≡ to_the_end r) where
  pub stop_end : r ≡ None → then x k ≡ None
  unfolding then to_the_end
  stop_end g = rw (e, g)

  pub step_end : (a : A) (y : Option (B × List ℕ)) → r ≡ Some a → k a [] ≡ y → then x k ≡ y
  unfolding then to_the_end
  step_end a y g h = rw (e, g) h

pub ruleset phrases_leave = (file_leaves, bit_leaves, bit_count_leaves, ignored_leaves, slot_leaves, position_leaves, st_or_a_leaves)

-- what a form gives, from what the readers of its phrases answered
pub ruleset forms = (reading, stop_end, step_end, phrases_leave)

-- what the reader of a phrase answers, from what the readers of its parts answered
pub ruleset phrases = (answering, phrases_leave)
