-- A write of no kind changes no lent memory.
use Rattle.std.proofs.Common.{ℕ, ◌≡◌, refl, Bool, true, false, cond, List, Result, Ok, Err}
use Rattle.base.specs.declared.refusal.Refusal.{Refusal}
use Rattle.base.specs.declared.refusal.Refusal.TheVariants.{BitWithCount, UnsuitableValue}
use Rattle.address_spec.specs.declared.Address.{Address}
use Rattle.address_readings.specs.declared.Reading.{Reading}
use Rattle.address_readings.specs.Readings.{address_in}
use Rattle.request_spec.specs.Request.{refused, left, on_address, bit_and_count}
use Rattle.link_requests.specs.Kinds.{unsuited_address, unsuited}

pub unsuited_left : (tag : List ℕ) (ρ : Reading) (l : List ℕ) → l ≡ left (unsuited tag ρ) l
unfolding on_address unsuited_address
unsuited_left tag ρ l = go (address_in ρ tag)
  where
    no : (b : Bool) → l ≡ left (cond b (refused BitWithCount) (refused UnsuitableValue)) l
    no true = refl
    no false = refl

    go : (p : Result Address Refusal) → l ≡ left (on_address p unsuited_address) l
    go (Err e) = refl
    go (Ok x) = no (bit_and_count x)
