-- Laws of the names of words and bits in T, C and R.
use Rattle.std.proofs.Common.{◌-◌, subst, ℕ, ◌≡◌, ◌≤◌, ◌<◌, refl, Bool, true, false, cond, List, [], length, arith, Option, None, Some}
use Rattle.std.specs.Option.{option_map}
use borrow.Author.Tests.{eqb-true, leb-true, ltb-true}
use lib.Dec.{eqb, leb, ltb}
use lib.ListN.{get_or}
use Rattle.std.proofs.lemmas.List.Quantifiers.{position-Some}
use Rattle.base.specs.Chars.{spelled}
use Rattle.base.proofs.EveryPlace.{every_below, at_place}
use Rattle.file_type.specs.declared.Field.{Field}
use Rattle.file_type.specs.declared.Field.TheVariants as field
use Rattle.file_type.specs.declared.FileType.{FileType}
use Rattle.file_type.specs.Fields.{Placed}
use Rattle.file_type.specs.Table.{field_names, bit_names, place, field_at, of_field}
use Rattle.file_type.proofs.FileTypes.{each}

pub most : (t : FileType) → length (field_names t) ≤ 10
most t = leb-true (length (field_names t)) 10 (each (λ (t : FileType). leb (length (field_names t)) 10) refl t)

-- words have three letters, bits two
abbrev pub letters_at : ℕ → ℕ
letters_at i = cond (ltb i 2) 3 2

abbrev pub Letters : FileType → Type 0
Letters t = (i : ℕ) → i < length (field_names t) → length (get_or (field_names t) i []) ≡ letters_at i

abbrev lettered : FileType → ℕ → Bool
lettered t i = eqb (length (get_or (field_names t) i [])) (letters_at i)

pub letters : (t : FileType) → Letters t
letters t i h =
    eqb-true (length (get_or (field_names t) i [])) (letters_at i) (at_place (lettered t) (length (field_names t)) (each (λ (t : FileType). every_below (lettered t) (length (field_names t))) refl t) i h)

pub bits_most : (t : FileType) → length (bit_names t) ≤ 8
bits_most t = leb-true (length (bit_names t)) 8 (each (λ (t : FileType). leb (length (bit_names t)) 8) refl t)

pub bits_within : (t : FileType) {b k : ℕ} → b ≡ length (bit_names t) → 8 ≤ k → b ≤ k
bits_within t e h = omega (arith, bits_most t)

-- a name's place is one of the list's, so a field lies within its element
pub place_within : (t : FileType) (s : List ℕ) {i : ℕ} → place (field_names t) s ≡ Some i → i < 10
unfolding place
place_within t s {i} e = omega (arith, (position-Some (λ (n : List ℕ). spelled true n s) (field_names t) i [] e).0, most t)

placed_at : (i : ℕ) → i < 10 → Placed (field_at i)
placed_at k h = go (ltb k 2) refl
  where
    go : (t : Bool) → ltb k 2 ≡ t → Placed (cond t (field.Word k) (field.Bit (k - 2)))
    go true e = record { word = λ i g. let x : k ≡ i = cc in omega (arith, ltb-true k 2 e); bit = λ i g. cc }
    go false e = record { word = λ i g. cc; bit = λ i g. let x : k - 2 ≡ i = cc in omega arith }

pub placed : (t : FileType) (s : List ℕ) (f : Field) → of_field t s ≡ Some f → Placed f
unfolding of_field
placed t s f = go (place (field_names t) s) (λ i. place_within t s)
  where
    go : (o : Option ℕ) → ((i : ℕ) → o ≡ Some i → i < 10) → option_map field_at o ≡ Some f → Placed f
    go None h e = cc
    go (Some i) h e = let g : field_at i ≡ f = cc in subst Placed g (placed_at i (h i refl))
