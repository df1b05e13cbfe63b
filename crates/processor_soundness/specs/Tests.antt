-- The tests of the type text and of the datalog, as they are made.
use Rattle.std.specs.Prelude.{ℕ, max, Bool, ◌&&◌, cond, List, [], ◌∷◌, leb, ltb, length, Option, None, Some}
use Rattle.std.specs.List.{list_all}
use Rattle.processor_spec.specs.Plain.{entry_room}

-- the largest of a number and some bytes
unfoldable pub largest_from : ℕ → List ℕ → ℕ
largest_from n [] = n
largest_from n (b ∷ s) = largest_from (max n b) s

unfoldable pub largest : List ℕ → ℕ
largest s = largest_from 0 s

-- "each below 128", of the type text (question 13)
unfoldable pub small : List ℕ → Bool
small s = list_all (λ (b : ℕ). ltb b 128) s

-- the room of the first entry of a datalog, where there is a whole one of at most 255 bytes
unfoldable pub good_room : List ℕ → Option ℕ
good_room log = cond (leb 2 (length log) && leb (entry_room log) (length log) && leb (entry_room log) 257) (Some (entry_room log)) None
