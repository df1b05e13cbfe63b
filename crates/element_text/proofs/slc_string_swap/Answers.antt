use mathlib.Core.Path.{sym}
use native.Mathlib.Omega.{arith}
use lib.Seq.{length-take-le}
use Rattle.element_text.proofs.Text.{no_room, kept_length, swap_done}
use borrow.Author.Rules.{rules}
use Rattle.element_text.proofs.slc_string_swap.Goals as goal

pub returns-then-out-m : goal.returns-then-out-m
returns-then-out-m c = search (no_room, rules)

pub slice_bounds-swap_pairs-end-2 : goal.slice_bounds-swap_pairs-end-2
slice_bounds-swap_pairs-end-2 c = sym (length-take-le _ _ (omega (arith, kept_length _ _ c.if-out-m.false c.put_all.ensures c.put_number.ensures)))

pub returns : goal.returns
returns c = swap_done _ _ c.if-out-m.false c.put_all.ensures c.put_number.ensures _ c.swap_pairs.ensures
