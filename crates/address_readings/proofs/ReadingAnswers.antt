-- What the readings give, as the reader of a tag finds it.
use Rattle.std.specs.Prelude.{Result, Ok, Err}
use Prim.Native.Nat.{ℕ}
use mathlib.Core.Path.{◌≡◌, sym, ◌∙◌}
use mathlib.Core.List.{List}
use mathlib.Core.Bool.{Bool, true, false}
use Rattle.base.specs.declared.refusal.Refusal.{Refusal}
use Rattle.base.specs.declared.refusal.Refusal.TheVariants.{RetiredSeparator}
use Rattle.address_spec.specs.Spelling.{address_of}
use Rattle.address_spec.specs.declared.Address.{Address}
use Rattle.address_readings.specs.declared.Reading.{Reading}
use Rattle.address_readings.specs.declared.Reading.TheVariants.{New, Stored}
use Rattle.address_readings.specs.Readings.{retired, address_in}
use Rattle.address_readings.specs.Places.{retired_by}
use Rattle.address_readings.proofs.FromTheEnd.{retired_by_lem}

-- what the stored reading refuses, both refuse
pub refused_in : (r : Reading) (s : List ℕ) (e : Refusal) → address_of s ≡ Err e → address_in r s ≡ Err e
unfolding address_in retired
refused_in Stored s e h = h
refused_in New s e h = rw h

-- what it takes, the new one takes unless it is retired
module _ (r : Reading) (s : List ℕ) (a : Address) {p : Result Address Refusal} (w : p ≡ address_of s) (h : p ≡ Ok a) where
  accepts : address_of s ≡ Ok a
  accepts = sym w ∙ h

  pub stored_in : r ≡ Stored → Ok a ≡ address_in r s
  unfolding address_in
  stored_in e = rw (e, accepts)

  module _ (e : r ≡ New) {b : Bool} (f : b ≡ retired_by s a.file_type a.sub_element) where
    is_retired : retired s ≡ b
    is_retired = sym (f ∙ retired_by_lem s a accepts)

    pub retired_in : b ≡ true → Err RetiredSeparator ≡ address_in r s
    unfolding address_in
    retired_in g = rw (e, is_retired, g)

    pub kept_in_lem : b ≡ false → Ok a ≡ address_in r s
    unfolding address_in
    kept_in_lem g = rw (e, is_retired, g, accepts)
