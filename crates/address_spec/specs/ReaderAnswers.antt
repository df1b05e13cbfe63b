-- What a reader answers that reads all the rest: a value with no place behind it.
use Rattle.std.specs.Prelude.{List, [], ℕ, Option, None, Some}

unfoldable pub to_the_end : {A : Type 0} → Option A → Option (A × List ℕ)
to_the_end None = None
to_the_end (Some x) = Some (x, [])
