-- The readings of a tag by number: a new entry 0, a stored list's 1. The kinds of a write: raw bytes 0, false 1, true 2, Latin-1 text 3.
use Rattle.std.specs.Prelude.{ℕ, true, false, cond, List, eqb, Option, None, Some}
use Rattle.base.specs.declared.refusal.Refusal.TheVariants.{BitWithCount, UnsuitableValue}
use Rattle.address_spec.specs.declared.Address.{Address}
use Rattle.address_readings.specs.declared.Reading.{Reading}
use Rattle.address_readings.specs.declared.Reading.TheVariants.{New, Stored}
use Rattle.address_readings.specs.Readings.{address_in}
use Rattle.request_frame.specs.declared.Requestor.{Requestor}
use Rattle.request_spec.specs.declared.WriteValue.{WriteValue}
use Rattle.request_spec.specs.declared.WriteValue.TheVariants as value
use Rattle.request_spec.specs.Request.{Asked, refused, on_address, bit_and_count, writing}

-- any other number is a new entry: it takes nothing that a stored list doesn't
unfoldable pub reading_of : ℕ → Reading
reading_of n = cond (eqb n 1) Stored New

unfoldable pub kind_of : ℕ → Option WriteValue
kind_of k =
    cond (eqb k 0) (Some value.Raw)
    (cond (eqb k 1) (Some (value.Bool false))
    (cond (eqb k 2) (Some (value.Bool true))
    (cond (eqb k 3) (Some value.Text) None)))

-- a value of no kind suits no address: 1, 2, 39 and 3 as for any write, and then 4
unfoldable pub unsuited_address : Address → Asked
unsuited_address x = cond (bit_and_count x) (refused BitWithCount) (refused UnsuitableValue)

abbrev pub unsuited : List ℕ → Reading → Asked
unsuited tag r = on_address (address_in r tag) unsuited_address

-- a write of a kind
abbrev pub writing_kind : Option WriteValue → List ℕ → Reading → List ℕ → Requestor → ℕ → List ℕ → Asked
writing_kind (Some v) tag r s q sequence out = writing tag r v s q sequence out
writing_kind None tag r s q sequence out = unsuited tag r
