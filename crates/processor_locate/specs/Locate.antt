-- Where an access begins in the data memory (document 01: "the file must exist with that type, and element × element size + 2 × last address +
-- size must be within its length"), as the query and the survey tell it.
use Rattle.std.specs.Prelude.{ℕ, Option}
use Rattle.processor_spec.specs.Files.{place_in}
use Rattle.processor_query.specs.declared.Query.{Query}
use Rattle.processor_table.specs.declared.Seen.{Seen}

-- Files.locate, by the record that the survey found and the query
unfoldable pub locate_by : Seen → Query → Option ℕ
locate_by s q = place_in s.found q.code q.element q.sub q.size
