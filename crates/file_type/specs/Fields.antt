-- Where a field may lie.
use Rattle.std.specs.Prelude.{ℕ, ◌<◌, ◌≡◌}
use Rattle.file_type.specs.declared.Field.{Field}
use Rattle.file_type.specs.declared.Field.TheVariants as field

-- a field lies within its element: a word is 0 or 1, a bit 0 to 7
pub record Placed (f : Field) : Type 0 where
  pub word : (i : ℕ) → f ≡ field.Word i → i < 2
  pub bit : (i : ℕ) → f ≡ field.Bit i → i < 8
