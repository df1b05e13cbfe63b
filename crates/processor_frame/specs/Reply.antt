-- The bytes of a reply (document 01, "What the processor does").
use Rattle.std.specs.Prelude.{ℕ, cond, List, []}
use Rattle.processor_spec.specs.Frame.{well_formed, framed}

-- "The reply is the id, CMD OR 0x40, status, TNS, then data or one extended byte."; none to a command that isn't well-formed
unfoldable pub reply_to : List ℕ → ℕ → List ℕ → List ℕ
reply_to c status bs = cond (well_formed c) (framed c status bs) []
