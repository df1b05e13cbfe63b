-- What stands in front of each access, as plain data.
use Rattle.std.specs.Prelude.{ℕ, List, Option, None, Some}
use Rattle.processor_spec.specs.Params.{header}
use Rattle.processor_spec.specs.Params as model
use Rattle.processor_params.specs.declared.Header.{Header}
use Rattle.processor_params.specs.Take.{place_of}

abbrev pub header_by : List ℕ → Option (model.Header × List ℕ) → Option Header
header_by s None = None
header_by s (Some x) = Some (record {
  size = x.0.size;
  file = x.0.file;
  code = x.0.code;
  element = x.0.element;
  next = place_of s x.1;
})

-- "are size, file, type and element all there?"
unfoldable pub header_of : List ℕ → Option Header
header_of s = header_by s (header s)
