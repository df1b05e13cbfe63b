-- The directory of sound records, laid out by the processor's family, is processor_spec's.
use Prim.Native.Nat.{ℕ, suc}
use mathlib.Core.Path.{◌≡◌, ap, ◌∙◌}
use mathlib.Core.Bool.{true, ◌&&◌}
use mathlib.Core.List.{List}
use lib.Dec.{leb}
use lib.ListN.{length, take}
use Rattle.element_text.specs.Text.{fitted}
use Rattle.directory_sys0.specs.Families.{sys0}
use Rattle.processor_spec.specs.declared.FileRecord.{FileRecord}
use Rattle.processor_spec.specs.Directory.{directory, last_number}
use Rattle.processor_spec.specs.State.{good_table}
use Rattle.processor_spec.proofs.Tests.{and_r}
use Rattle.processor_query.specs.declared.Layout.{Layout}
use Rattle.processor_query.specs.Query.{layout_of}
use Rattle.processor_table.specs.declared.Seen.{Seen}
use Rattle.processor_table.specs.SurveySteps.{folded}
use Rattle.processor_table.specs.Survey.{told_of, survey_of}
use Rattle.processor_directory.specs.StoredRows.{blank_of, stored_row}
use Rattle.processor_directory.proofs.DirectoryFilled.{directory_right}
use Rattle.processor_directory.specs.Listing.{directory_of}

module _ (table : List FileRecord) (n number : ℕ) (text : List ℕ) (layout : Layout) (good : (leb n (length table) && good_table (take n table)) ≡ true) (lies : layout ≡ layout_of (sys0 text)) where
  told : survey_of table n number ≡ told_of number (take n table)
  unfolding survey_of
  told = rw good

  pub directory_is : directory_of table n layout (survey_of table n number) ≡ fitted 2793 0 (directory (take n table) (sys0 text))
  unfolding directory_of told_of
  directory_is =
      ap (λ (x : Seen). directory_of table n layout x) told
      ∙ ap (λ (l : Layout). folded (stored_row l.first l.row) (take n table) (blank_of l.first l.row (suc (last_number 0 (take n table))))) lies
      ∙ directory_right (take n table) text (and_r (leb n (length table)) (good_table (take n table)) good)
