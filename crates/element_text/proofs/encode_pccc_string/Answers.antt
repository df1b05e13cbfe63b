use mathlib.Core.Path.{sym}
use Rattle.element_text.proofs.Text.{cut_length, string_done}
use borrow.Author.Rules.{rules}
use Rattle.element_text.proofs.encode_pccc_string.Goals as goal

pub slice_bounds-put_all-end-2 : goal.slice_bounds-put_all-end-2
slice_bounds-put_all-end-2 c = sym (cut_length _ _ (search rules))

pub returns : goal.returns
returns c = string_done _ _ c.min-n.ensures c.put_number.ensures c.put_all.ensures _ c.swap_pairs.ensures
