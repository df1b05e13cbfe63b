-- The names and numbers of a type fit its record.
use Rattle.std.proofs.Common.{ℕ, zero, suc, ◌≡◌, ◌≤◌, refl, ap, ◌∙◌, Bool, true, false, List, [], ◌∷◌, length, get_or, arith, Option, Fits, w8}
use Rattle.std.specs.List.{list_all, slice_get}
use Rattle.std.specs.Option.{unwrap_or}
use Rattle.std.proofs.lemmas.Bool.{and_parts}
use Rattle.std.proofs.lemmas.Option.{unwrap_or-slice_get}
use borrow.Author.Tests.{leb-true}
use lib.Dec.{leb}
use mir.Val.{bool_byte}
use Rattle.file_type.specs.declared.FileType.{FileType}
use Rattle.file_type.specs.Table.{row, bit_names, word_names}
use Rattle.file_type.proofs.FieldNames.{bits_most}
use Rattle.file_type.proofs.FileTypes.{each, size_most}
use Rattle.link_types.specs.Types.{flag}

-- what is said of a case is said of the answer
pub case : {A B : Type 0} (f : A → B) {m a : A} {b : B} → m ≡ a → b ≡ f a → b ≡ f m
case f e h = rw e h

-- what is said of a call's answer is said of what the answer equals
pub through : {A B : Type 0} (f : A → B) {m a : A} {b : B} → b ≡ f m → m ≡ a → b ≡ f a
through f h e = h ∙ ap f e

-- the same, of what else it depends on
pub beside : {A B C : Type 0} (f : C → A → B) (x : C) {m a : A} {b : B} → b ≡ f x m → m ≡ a → b ≡ f x a
beside f x h e = h ∙ ap (f x) e

pub as_flag : (b : Bool) → bool_byte b ≡ flag b
as_flag true = refl
as_flag false = refl

-- ---- names have three bytes at most
abbrev three : List ℕ → Bool
three s = leb (length s) 3

pub name_short : (t : FileType) {s : List ℕ} → s ≡ (row t).name → length s ≤ 3
name_short t e = omega (arith, ap length e, leb-true (length (row t).name) 3 (each (λ (t : FileType). three (row t).name) refl t))

short_at : (xs : List (List ℕ)) (i : ℕ) → list_all three xs ≡ true → length (get_or xs i []) ≤ 3
short_at [] i h = omega arith
short_at (x ∷ xs) zero h = leb-true (length x) 3 (and_parts _ _ h).0
short_at (x ∷ xs) (suc i) h = short_at xs i (and_parts _ _ h).1

-- a name that was found, or an empty one
name_of_lem : (xs : List (List ℕ)) (i : ℕ) {o : Option (List ℕ)} → o ≡ slice_get xs i → unwrap_or o [] ≡ get_or xs i []
name_of_lem xs i e = ap (λ (x : Option (List ℕ)). unwrap_or x []) e ∙ unwrap_or-slice_get xs i []

pub name_of : {B : Type 0} (f : List ℕ → B) (xs : List (List ℕ)) (i : ℕ) {o : Option (List ℕ)} {r : B} → o ≡ slice_get xs i → r ≡ f (unwrap_or o []) → r ≡ f (get_or xs i [])
name_of f xs i e h = h ∙ ap f (name_of_lem xs i e)

pub bit_short : (t : FileType) (i : ℕ) {o : Option (List ℕ)} → o ≡ slice_get (bit_names t) i → length (unwrap_or o []) ≤ 3
bit_short t i e = omega (arith, ap length (name_of_lem (bit_names t) i e), short_at (bit_names t) i (each (λ (t : FileType). list_all three (bit_names t)) refl t))

pub word_short : (t : FileType) (i : ℕ) {o : Option (List ℕ)} → o ≡ slice_get (word_names t) i → length (unwrap_or o []) ≤ 3
word_short t i e = omega (arith, ap length (name_of_lem (word_names t) i e), short_at (word_names t) i (each (λ (t : FileType). list_all three (word_names t)) refl t))

-- ---- numbers fit a byte
module _ (t : FileType) {n : ℕ} where
  pub size_fits : n ≡ (row t).size → Fits w8 n
  size_fits h = omega (arith, size_most t)

  pub bits_fit : n ≡ length (bit_names t) → Fits w8 n
  bits_fit h = omega (arith, bits_most t)
