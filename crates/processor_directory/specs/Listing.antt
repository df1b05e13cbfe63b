-- The directory that a command asks for, as it is filled record by record. Of sound records, laid out by the processor's family, it is the
-- directory of processor_spec with zeros behind it: `proofs/DirectoryIs.antt`.
use Rattle.std.specs.Prelude.{ℕ, List, take}
use Rattle.processor_spec.specs.declared.FileRecord.{FileRecord}
use Rattle.processor_query.specs.declared.Layout.{Layout}
use Rattle.processor_table.specs.declared.Seen.{Seen}
use Rattle.processor_table.specs.SurveySteps.{folded}
use Rattle.processor_directory.specs.StoredRows.{blank_of, stored_row}

abbrev pub begin_of : Layout → Seen → List ℕ
begin_of l s = blank_of l.first l.row s.next

abbrev pub store_of : Layout → List ℕ → FileRecord → List ℕ
store_of l d r = stored_row l.first l.row d r

unfoldable pub directory_of : List FileRecord → ℕ → Layout → Seen → List ℕ
directory_of table n l s = folded (store_of l) (take n table) (begin_of l s)
