-- Writing the text of an address (document 02, A12): what is asked, and what the call answers and leaves in the lent memory.
use Rattle.std.specs.Prelude.{ℕ, ◌≡◌, List, cond, leb, length, Result, Ok, Err}
use Rattle.base.specs.declared.refusal.Refusal.{Refusal}
use Rattle.base.specs.declared.refusal.Refusal.TheVariants.{ShortOutput}
use Rattle.base.specs.Outcome.{Outcome, refused, lays, left}
use Rattle.address_spec.specs.declared.Address.{Address}
use Rattle.address_spec.specs.Spelling.{address_of}
use Rattle.address_readings.specs.Readings.{dotted as text_of}

-- "when writing the text, 1 and 2 of the stored-list reading, then 6 for an output below 255 bytes"
unfoldable pub asked : List ℕ → ℕ → Result Address Refusal → Outcome
asked tag room (Err e) = refused e
asked tag room (Ok x) = cond (leb 255 room) (lays 0 (text_of x tag)) (refused ShortOutput)

abbrev pub dotting : List ℕ → List ℕ → Outcome
dotting tag out = asked tag (length out) (address_of tag)

abbrev pub dotted_of : Outcome → Result ℕ Refusal
dotted_of (refused e) = Err e
dotted_of (lays at bs) = Ok (length bs)

pub record Dots (o : Outcome) (l : List ℕ) (r : Result ℕ Refusal) (l' : List ℕ) : Type 0 where
  pub answer : r ≡ dotted_of o
  pub now : l' ≡ left o l
