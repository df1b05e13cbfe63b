-- Laws of the forms: the whole tag.
use Rattle.std.specs.Prelude.{Option, None, Some}
use Prim.Native.Nat.{ℕ}
use mathlib.Core.Path.{◌≡◌}
use mathlib.Core.List.{List, []}
use mathlib.Core.Bool.{Bool}
use Rattle.file_type.specs.declared.FileType.{FileType}
use Rattle.parser_spec.specs.Parts.{Part, ended, whole, at_end}
use Rattle.address_spec.specs.Spelling.{address}
use Rattle.address_spec.specs.declared.Address.{Address}

module _ (p : Part Address) (s : List ℕ) where
  pub no_form : (r : Option Address) → r ≡ None → p s ≡ None → r ≡ whole p s
  unfolding whole ended
  no_form r g e = rw (g, e)

  pub a_form : (a : Address) → p s ≡ Some (a, []) → Some a ≡ whole p s
  unfolding whole ended at_end
  a_form a e = rw e

  pub finish : (a : Address) (q : List ℕ) (r : Option Address) → r ≡ ended (Some (a, q)) → p s ≡ Some (a, q) → r ≡ whole p s
  unfolding whole
  finish a q r g e = rw e g

  pub go_on : (q : Part Address) (u : List ℕ) (r : Option Address) → r ≡ whole q u → p s ≡ q u → r ≡ whole p s
  unfolding whole
  go_on q u r g e = rw e g

-- numbers that calls gave
module _ (t : FileType) (f e n : ℕ) (p : Option ℕ) (u v : Bool) (k l : ℕ) (q : List ℕ) where
  abbrev Same : Option ℕ → Option ℕ → Type 0
  Same x y = ◌≡◌ {A = Option (Address × List ℕ)} (Some (address t f e p x u n k, q)) (Some (address t f e p y v n l, q))

  pub same : (x : Option ℕ) → v ≡ u → l ≡ k → Same x x
  same x g h = rw (g, h)

  pub same_slot : (x y : ℕ) → y ≡ x → v ≡ u → l ≡ k → Same (Some x) (Some y)
  same_slot x y d g h = rw (d, g, h)
