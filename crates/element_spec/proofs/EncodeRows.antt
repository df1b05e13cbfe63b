-- Rows by computation, for the must-fail edits of setting an element under which no law is false: of three words with one out of range none is stored; 20
-- comes before 21; no number suits MG.
use mathlib.Core.Path.{◌≡◌, refl}
use mathlib.Core.List.{[], ◌∷◌}
use lib.IntN.{pos}
use lib.ListN.{replicate}
use Rattle.base.specs.Chars.{bytes, spelled}
use Rattle.base.specs.Numbers.{low_first}
use Rattle.base.specs.Outcome.{refused}
use Rattle.base.specs.declared.refusal.Refusal.TheVariants.{NumberOutOfRange, UnsuitableKind}
use Rattle.file_type.specs.declared.FileType.TheVariants.{T, N, MG}
use Rattle.file_type.specs.Table.{place, of_field}
use Rattle.element_spec.specs.declared.Value.TheVariants as value
use Rattle.element_spec.specs.Encode.{encoded}

pub rows :
    (encoded T (value.Words (pos 1) (pos 99999) (pos 3)) [] (replicate 6 0)
    ∷ encoded N (value.Field (pos 40000)) (bytes "X") (replicate 6 0)
    ∷ encoded MG (value.Whole (pos 1)) [] (replicate 50 0)
    ∷ [])
    ≡ (refused NumberOutOfRange ∷ refused UnsuitableKind ∷ refused UnsuitableKind ∷ [])
unfolding encoded low_first of_field place spelled
rows = refl
