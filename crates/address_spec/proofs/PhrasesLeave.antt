-- What a phrase of an address leaves stands at the end of what it was given.
use Rattle.std.specs.Prelude.{Some}
use Prim.Native.Nat.{ℕ}
use mathlib.Core.Bool.{Bool, true, false, cond}
use mathlib.Core.List.{List}
use lib.Dec.{eqb}
use Rattle.parser_spec.specs.DecimalNumbers.{digit_run}
use Rattle.parser_spec.specs.Parts.{then, digits}
use Rattle.parser_spec.proofs.Behind.{Leaves, then_leaves, give_leaves, byte_leaves, digits_leaves, in_leaves, after_leaves, count_leaves}
use Rattle.parser_spec.specs.Characters.{utf8}
use Rattle.parser_spec.proofs.Characters.{letter_leaves, first_leaves}
use Rattle.address_spec.specs.Spelling.{file_before, optional_bit, bit_count, ignored, optional_position, slot, st_or_a}

pub file_leaves : (v : ℕ) (s : List ℕ) → Leaves s (file_before v s)
unfolding file_before
file_leaves v s = then_leaves (in_leaves 3 1 255 s) λ f r. then_leaves (byte_leaves v r) λ u q. give_leaves q

pub bit_leaves : (s : List ℕ) → Leaves s (optional_bit s)
unfolding optional_bit
bit_leaves s = after_leaves _ _ _ s λ r. then_leaves (in_leaves 2 0 15 r) λ n q. give_leaves q

pub bit_count_leaves : (s : List ℕ) → Leaves s (bit_count s)
unfolding bit_count
bit_count_leaves s = then_leaves (bit_leaves s) λ b r. then_leaves (count_leaves false r) λ n q. give_leaves q

pub ignored_leaves : (s : List ℕ) → Leaves s (ignored s)
unfolding ignored
ignored_leaves s = go (eqb (digit_run s) 0)
  where
    go : (t : Bool) → Leaves {A = Unit {0}} s (cond t (Some (tt, s)) (then (digits 3 s) (λ _ r. Some (tt, r))))
    go true = give_leaves s
    go false = then_leaves (digits_leaves 3 s) λ n r. give_leaves r

pub slot_leaves : (s : List ℕ) → Leaves s (slot utf8 s)
unfolding slot
slot_leaves s = then_leaves (first_leaves _ s) λ t r. then_leaves (ignored_leaves r) λ u q. then_leaves (byte_leaves _ q) λ u z. give_leaves z

pub position_leaves : (s : List ℕ) → Leaves s (optional_position s)
unfolding optional_position
position_leaves s = after_leaves _ _ _ s λ r. in_leaves _ _ _ r

pub st_or_a_leaves : (st : Bool) (s : List ℕ) → Leaves s (st_or_a utf8 st s)
unfolding st_or_a
st_or_a_leaves true s = then_leaves (letter_leaves _ s) λ u r. then_leaves (letter_leaves _ r) λ u q. give_leaves q
st_or_a_leaves false s = then_leaves (letter_leaves _ s) λ u r. give_leaves r
