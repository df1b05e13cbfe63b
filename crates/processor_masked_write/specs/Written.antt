-- The memory that a masked write leaves (document 01: "An accepted write sets each word to (old AND NOT mask) OR (value AND mask); an odd last
-- byte uses the mask's low byte. .. Other bytes stay.").
use Rattle.std.specs.Prelude.{ℕ, List}
use Rattle.base.specs.Put.{put}
use Rattle.processor_spec.specs.Masked.{masked_at}

unfoldable pub written : List ℕ → ℕ → ℕ → List ℕ → List ℕ
written memory at mask values = put memory at (masked_at memory at mask values)
