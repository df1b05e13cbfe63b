-- The bytes of one element, by a type code.
use Prim.Native.Nat.{ℕ}
use mathlib.Core.Path.{◌≡◌, refl, sym, subst, ◌∙◌}
use mathlib.Core.List.{List}
use Rattle.std.specs.Prelude.{Option, None, Some, Err}
use Rattle.base.specs.declared.refusal.Refusal.TheVariants.{NoSuchElement}
use lib.ListN.{length}
use Rattle.element_spec.specs.Decode.{decoded}
use Rattle.element_spec.specs.Encode.{encoded}
use Rattle.file_type.specs.declared.FileType.{FileType}
use Rattle.file_type.specs.Table.{of_code}
use Rattle.link_elements.specs.declared.SlcElement.{SlcElement}
use Rattle.link_elements.specs.declared.SlcValue.{SlcValue}
use Rattle.link_elements.specs.ElementRecords.{value_of, stored_number, numbers_of, StoresInNumbers, ReadsInNumbers, encoded_in, decoded_in}

module _ (code : ℕ) (k : Option FileType) (e : k ≡ of_code code) where
  module _ (v : SlcValue) (text l l' : List ℕ) (r : ℕ) where
    pub encode_known : (t : FileType) → k ≡ Some t → StoresInNumbers (encoded t (value_of t v) text l) l r l' → StoresInNumbers (encoded_in (of_code code) v text l) l r l'
    unfolding encoded_in
    encode_known t i h = subst (λ (z : Option FileType). StoresInNumbers (encoded_in z v text l) l r l') (sym i ∙ e) h

    pub encode_unknown : k ≡ None → r ≡ stored_number (Err NoSuchElement) → l' ≡ l → StoresInNumbers (encoded_in (of_code code) v text l) l r l'
    unfolding encoded_in
    encode_unknown i h m = subst (λ (z : Option FileType). StoresInNumbers (encoded_in z v text l) l r l') (sym i ∙ e) (record { answer = h; memory = m })

  module _ (bytes l l' : List ℕ) (r : SlcElement) where
    pub decode_known : (t : FileType) → k ≡ Some t → ReadsInNumbers (decoded t bytes (length l)) l r l' → ReadsInNumbers (decoded_in (of_code code) bytes (length l)) l r l'
    unfolding decoded_in
    decode_known t i h = subst (λ (z : Option FileType). ReadsInNumbers (decoded_in z bytes (length l)) l r l') (sym i ∙ e) h

    pub decode_unknown : k ≡ None → r ≡ numbers_of (Err NoSuchElement) → l' ≡ l → ReadsInNumbers (decoded_in (of_code code) bytes (length l)) l r l'
    unfolding decoded_in
    decode_unknown i h m = subst (λ (z : Option FileType). ReadsInNumbers (decoded_in z bytes (length l)) l r l') (sym i ∙ e) (record { answer = h; memory = m })
