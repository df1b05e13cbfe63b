-- Values and elements in numbers.
use Prim.Native.Nat.{ℕ, ◌%◌, ◌≤◌, ◌<◌}
use mathlib.Core.Path.{◌≡◌, refl, ap, sym, subst, ◌∙◌}
use mathlib.Core.Bool.{cond}
use mathlib.Core.List.{List}
use native.Mathlib.Omega.{arith}
use borrow.Author.Tests.{ne_eqb}
use lib.Dec.{ltb}
use lib.IntN.{ℤ, pos, negsuc}
use lib.ListN.{length}
use mir.Syntax.{w64}
use mir.Val.{SFits, to_z, of_z}
use mir.ValLaws.{to_z-of_z}
use Rattle.std.specs.Prelude.{Result}
use Rattle.base.specs.Outcome.{Outcome, refused}
use Rattle.base.specs.declared.refusal.Refusal.{Refusal}
use Rattle.base.specs.declared.refusal.Refusal.TheVariants.{NoSuchElement, UnsuitableKind}
use Rattle.element_spec.specs.declared.Element.{Element}
use Rattle.element_spec.specs.Decode.{Says, Reads}
use Rattle.element_spec.specs.declared.kind.ElementKind.{ElementKind}
use Rattle.element_spec.specs.declared.kind.ElementKind.TheVariants as kind
use Rattle.element_spec.specs.declared.Value.{Value}
use Rattle.element_spec.specs.declared.Value.TheVariants as value
use Rattle.element_spec.specs.Encode.{kind_of, encode_as, encoded, Stores}
use Rattle.file_type.specs.declared.FileType.{FileType}
use Rattle.file_type.specs.Table.{row}
use Rattle.element_whole.specs.Whole.{twos}
use Rattle.link_elements.specs.declared.SlcElement.{SlcElement}
use Rattle.link_elements.specs.declared.SlcValue.{SlcValue}
use Rattle.link_elements.specs.ElementRecords.{low_half, misfit_for, misfit_of, value_of, stored_number, numbers_of, StoresInNumbers, ReadsInNumbers}

-- ---- the low half of a number
unsigned_is : (n : ℤ) → of_z w64 n ≡ twos 18446744073709551615 n
unsigned_is (pos n) = refl
unsigned_is (negsuc n) = omega arith

pub half : (n : ℤ) {u : ℕ} → SFits w64 n → u ≡ of_z w64 (to_z w64 (of_z w64 n)) → u % 4294967296 ≡ low_half n
unfolding low_half
half n f e = ap (λ (k : ℕ). k % 4294967296) (e ∙ ap (of_z w64) (to_z-of_z w64 n f) ∙ unsigned_is n)

-- ---- values
pub text_misfit : (k : ElementKind) → (k ≡ kind.Ascii → ⊥) → (k ≡ kind.Line → ⊥) → value.Text ≡ misfit_for k
text_misfit kind.Word a l = refl
text_misfit kind.Long a l = refl
text_misfit kind.Float a l = refl
text_misfit kind.Ascii a l = absurd (a refl)
text_misfit kind.Line a l = absurd (l refl)
text_misfit kind.Fields a l = refl
text_misfit kind.Other a l = refl

-- ---- what is said in numbers follows from what is said
pub in_numbers_lem : (o : Says) (l l' : List ℕ) (e : Result Element Refusal) (r : SlcElement) → Reads o l e l' → r ≡ numbers_of e → ReadsInNumbers o l r l'
in_numbers_lem o l l' e r h n = record { answer = n ∙ ap numbers_of h.answer; memory = h.memory }

pub in_a_number : (o : Outcome) (l l' : List ℕ) (s : Result (Unit {0}) Refusal) (r : ℕ) → Stores o l s l' → r ≡ stored_number s → StoresInNumbers o l r l'
in_a_number o l l' s r h n = record { answer = n ∙ ap stored_number h.answer; memory = h.memory }

pub encoded_in_lem : (t : FileType) (w : SlcValue) (v : Value) (text l l' : List ℕ) (s : Result (Unit {0}) Refusal) (r : ℕ) → v ≡ value_of t w → Stores (encoded t v text l) l s l' → r ≡ stored_number s
    → StoresInNumbers (encoded t (value_of t w) text l) l r l'
encoded_in_lem t w v text l l' s r e h n = in_a_number _ _ _ s r (subst (λ (y : Value). Stores (encoded t y text l) l s l') e h) n

-- ---- "Another kind suits no type": 20, in its place
value_other : (t : FileType) (v : SlcValue) → 5 ≤ v.kind → misfit_of t ≡ value_of t v
unfolding value_of
value_other t v h =
    let other : (n : ℕ) → n < 5 → v.kind ≡ n → ⊥ = λ n l e. omega (arith, h, l, e) in
    rw (ne_eqb v.kind 0 (other 0 (omega arith)), ne_eqb v.kind 1 (other 1 (omega arith)), ne_eqb v.kind 2 (other 2 (omega arith)), ne_eqb v.kind 3 (other 3 (omega arith)), ne_eqb v.kind 4 (other 4 (omega arith))) refl

module _ (t : FileType) (text bytes : List ℕ) where
  misfit_refused : (k : ElementKind) → encode_as k t (misfit_for k) text bytes ≡ refused UnsuitableKind
  misfit_refused kind.Word = refl
  misfit_refused kind.Long = refl
  misfit_refused kind.Float = refl
  misfit_refused kind.Ascii = refl
  misfit_refused kind.Line = refl
  misfit_refused kind.Fields = refl
  misfit_refused kind.Other = refl

  pub other_kind : (v : SlcValue) → 5 ≤ v.kind → encoded t (value_of t v) text bytes ≡ cond (ltb (length bytes) (row t).size) (refused NoSuchElement) (refused UnsuitableKind)
  unfolding encoded misfit_of
  other_kind v h =
      ap (λ (x : Value). encoded t x text bytes) (sym (value_other t v h))
      ∙ ap (cond (ltb (length bytes) (row t).size) (refused NoSuchElement)) (misfit_refused (kind_of t))
