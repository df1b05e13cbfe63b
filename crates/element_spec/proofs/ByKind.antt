-- Laws of the kinds: an element of a kind has room for its values, and a call goes by the kind.
use Prim.Native.Nat.{ℕ, ◌≤◌}
use mathlib.Core.Path.{◌≡◌, refl, sym, subst, ◌∙◌}
use mathlib.Core.List.{List}
use native.Mathlib.Omega.{arith}
use borrow.Author.Tests.{leb-true}
use lib.Dec.{leb}
use lib.ListN.{length}
use Rattle.base.specs.declared.refusal.Refusal.{Refusal}
use Rattle.std.specs.Prelude.{Result}
use Rattle.file_type.specs.declared.FileType.{FileType}
use Rattle.file_type.specs.Table.{row}
use Rattle.file_type.proofs.FileTypes.{each}
use Rattle.element_spec.specs.declared.kind.ElementKind.{ElementKind}
use Rattle.element_spec.specs.declared.kind.ElementKind.TheVariants as kind
use Rattle.element_spec.specs.declared.Value.{Value}
use Rattle.element_spec.specs.Encode.{kind_of, encode_as, encoded, Stores}
use Rattle.element_spec.proofs.ElementStores.{all_there}

-- the bytes that the values of a kind take
abbrev pub size_for : ElementKind → ℕ
size_for kind.Word = 2
size_for kind.Long = 4
size_for kind.Float = 4
size_for kind.Ascii = 2
size_for kind.Line = 84
size_for kind.Fields = 6
size_for kind.Other = 0

pub size_least : (t : FileType) → size_for (kind_of t) ≤ (row t).size
size_least t = leb-true (size_for (kind_of t)) (row t).size (each (λ (t : FileType). leb (size_for (kind_of t)) (row t).size) refl t)

-- setting by a kind
pub set_by_lem : (K : ElementKind) (t : FileType) (v : Value) (text l : List ℕ) {s : ℕ} {k : ElementKind} {r : Result (Unit {0}) Refusal} {m : List ℕ} → s ≡ (row t).size → s ≤ length l → k ≡ kind_of t → k ≡ K → Stores (encode_as K t v text l) l r m → Stores (encoded t v text l) l r m
unfolding encoded
set_by_lem K t v text l {s} {k} {r} {m} g h e f w =
    all_there (row t).size l _ (omega arith) (subst (λ (x : ElementKind). Stores (encode_as x t v text l) l r m) (sym f ∙ e) w)
