-- What a command says, by the command and the type text alone (document 01, "What the processor does"): the questions of `ask` in processor_spec that
-- don't concern the file table, as plain data.
use Rattle.std.specs.Prelude.{ℕ, ◌&&◌, cond, List, [], ◌∷◌, eqb, take, Option, None, Some}
use Rattle.parser_spec.specs.Parts.{Part, ◌>>=◌, give}
use Rattle.directory_sys0.specs.declared.Sys0Info.{Sys0Info}
use Rattle.directory_sys0.specs.Families.{sys0}
use Rattle.processor_spec.specs.declared.Slc.{Slc}
use Rattle.processor_spec.specs.Frame.{cmd, function}
use Rattle.processor_spec.specs.Params.{Header, header, known_function, writes, asks_directory, asks_datalog, last_address, mask_word, value_bytes}
use Rattle.processor_params.specs.declared.Header as params
use Rattle.processor_params.specs.Take.{place_of}
use Rattle.processor_query.specs.declared.Layout.{Layout}
use Rattle.processor_query.specs.declared.Query.{Query}
use Rattle.processor_query.specs.declared.Wants.{Wants}
use Rattle.processor_query.specs.declared.Wants.TheVariants as wants

-- where the directory lies
abbrev pub layout_of : Sys0Info → Layout
layout_of sys = record {
  first = sys.file_position;
  row = sys.row_size;
  code = sys.file_type;
  size_element = sys.size_element;
  constant = sys.size_const;
}

-- the header without the place behind it
abbrev pub header_in : params.Header → Header
header_in h = record { size = h.size; file = h.file; code = h.code; element = h.element }

-- the same of what is wanted, where that is the directory
abbrev pub directory_wanted : Wants → Option Layout
directory_wanted wants.Illegal = None
directory_wanted wants.Bad = None
directory_wanted wants.Diagnostic = None
directory_wanted wants.Entry = None
directory_wanted (wants.Directory l) = Some l
directory_wanted wants.Read = None
directory_wanted wants.Write = None

-- nothing is told of a file
abbrev pub plainly : Wants → Query
plainly w = record { number = 0; wants = w; size = 0; code = 0; element = 0; sub = 0; mask = 0; place = 0 }

abbrev pub directory_query : Sys0Info → Header → Query
directory_query sys h = record {
  number = 0;
  wants = wants.Directory (layout_of sys);
  size = h.size;
  code = h.code;
  element = h.element;
  sub = 0;
  mask = 0;
  place = 0;
}

abbrev pub access_query : Wants → Header → ℕ → ℕ → ℕ → Query
access_query w h sub mask place = record {
  number = h.file;
  wants = w;
  size = h.size;
  code = h.code;
  element = h.element;
  sub = sub;
  mask = mask;
  place = place;
}

-- the bytes that are left
abbrev pub rest : Part (List ℕ)
rest s = Some (s, s)

-- "Else the last address .., the mask (0xAB) and, for 0xAA and 0xAB, size value bytes must be there"; `s` are all parameters
unfoldable pub file_query : List ℕ → ℕ → Header → Part Query
file_query s fn h = do
  sub ← last_address fn
  mask ← mask_word fn
  behind ← rest
  values ← value_bytes fn h.size
  give (access_query (cond (writes fn) wants.Write wants.Read) h sub mask (place_of s behind))

unfoldable pub or_bad : Option (Query × List ℕ) → Query
or_bad None = plainly wants.Bad
or_bad (Some x) = x.0

-- the query alone, and what none stands for
abbrev pub said : Option (Query × List ℕ) → Option Query
said None = None
said (Some x) = Some x.0

abbrev pub wanted : Option Query → Query
wanted None = plainly wants.Bad
wanted (Some q) = q

-- the questions of CMD 0x0F, in their order; `x` are the header and the bytes behind it
unfoldable pub function_query : List ℕ → ℕ → List ℕ → Option (Header × List ℕ) → Query
function_query text fn s None = plainly wants.Bad
function_query text fn s (Some x) =
    cond (known_function fn)
    (cond (asks_directory fn x.0.file) (directory_query (sys0 text) x.0)
    (cond (asks_datalog fn x.0.code) (plainly wants.Entry)
    (or_bad (file_query s fn x.0 x.1))))
    (plainly wants.Illegal)

-- "CMD 0x0F with a function byte, or CMD 0x06 with function 0x03? no: status 10."
unfoldable pub body_query : List ℕ → ℕ → List ℕ → Query
body_query text cmd [] = plainly wants.Illegal
body_query text cmd (fn ∷ s) =
    cond (eqb cmd 0x0F) (function_query text fn s (header s))
    (cond (eqb cmd 0x06 && eqb fn 0x03) (plainly wants.Diagnostic) (plainly wants.Illegal))

unfoldable pub query_of : Slc → List ℕ → Query
query_of slc c = body_query (take slc.type_len slc.type_text) (cmd c) (function c)
