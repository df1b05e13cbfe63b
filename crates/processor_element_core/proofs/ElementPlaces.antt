-- 19: the place of an element, and the part of the data memory that it has.
use Rattle.std.specs.Prelude.{None, Some}
use Prim.Native.Nat.{ℕ, suc, ◌+◌, ◌*◌, ◌/◌, ◌≤◌, ◌<◌, ◌^◌}
use mathlib.Core.Path.{◌≡◌, refl, sym, ap₂, subst, ◌∙◌}
use mathlib.Core.Bool.{Bool, true, false}
use native.Mathlib.Nat.{div-lt_iff_lt-mul, suc-mul}
use native.Mathlib.Omega.{arith}
use borrow.Author.Tests.{leb-true, leb-false, le-leb, lt-leb, eq-eqb, ne_eqb}
use lib.Dec.{leb, eqb}
use Rattle.file_type.specs.declared.FileType.{FileType}
use Rattle.file_type.specs.Table.{row}
use Rattle.file_type.proofs.FileTypes.{size_some}
use Rattle.processor_spec.specs.declared.FileRecord.{FileRecord}
use Rattle.processor_table.specs.declared.Seen.{Seen}
use Rattle.processor_element_core.specs.AccessBySurvey.{element_by}

-- an element has bytes
pub size_divides : (t : FileType) (size : ℕ) → size ≡ (row t).size → 0 < size
size_divides t size e = subst (λ (k : ℕ). 0 < k) (sym e) (size_some t)

-- as many elements as the length holds
past : (l size i : ℕ) → 0 < size → l / size ≤ i → l < i * size + size
past l size i p h = subst (λ (k : ℕ). l < k) (suc-mul i size) ((div-lt_iff_lt-mul p).0 (omega arith))

inside : (l size i : ℕ) → 0 < size → i < l / size → i * size + size ≤ l
inside l size i p h = go (leb (i * size + size) l) refl
  where
    go : (b : Bool) → leb (i * size + size) l ≡ b → i * size + size ≤ l
    go true t = leb-true (i * size + size) l t
    go false t =
        let g : l < suc i * size = subst (λ (k : ℕ). l < k) (sym (suc-mul i size)) (leb-false (i * size + size) l t) in
        let q : l / size < suc i = (div-lt_iff_lt-mul p).1 g in
        absurd (omega arith)

module _ (s : Seen) (t : FileType) (element : ℕ) where
  pub no_file : s.found ≡ None → None ≡ element_by s t element
  unfolding element_by
  no_file h = rw h

  module _ (r : FileRecord) (found : s.found ≡ Some r) (code : ℕ) (e : code ≡ (row t).code) where
    pub other_type : (r.code ≡ code → ⊥) → None ≡ element_by s t element
    unfolding element_by
    other_type ne = rw (found, ne_eqb r.code (row t).code (λ q. ne (q ∙ sym e)))

    module _ (is : r.code ≡ code) (size : ℕ) (es : size ≡ (row t).size) (l : ℕ) (el : l ≡ r.length) where
      typed : eqb r.code (row t).code ≡ true
      typed = eq-eqb r.code (row t).code (is ∙ e)

      pub past_end : l / size ≤ element → None ≡ element_by s t element
      unfolding element_by
      past_end h =
          let g : l < element * size + size = past l size element (size_divides t size es) h in
          let z : leb (element * (row t).size + (row t).size) r.length ≡ false = rw (sym es, sym el) (lt-leb (element * size + size) l g) in
          rw (found, typed, z)

      pub place_is : (start : ℕ) → start ≡ r.start → element < l / size → Some (start + element * size) ≡ element_by s t element
      unfolding element_by
      place_is start eo h =
          let g : element * size + size ≤ l = inside l size element (size_divides t size es) h in
          let z : leb (element * (row t).size + (row t).size) r.length ≡ true = rw (sym es, sym el) (le-leb (element * size + size) l g) in
          rw (found, typed, z) (ap₂ (λ (a b : ℕ). Some (a + element * b)) eo es)

-- no sum wraps
module _ (t : FileType) (size l element : ℕ) (es : size ≡ (row t).size) (small : l < 2 ^ 16) (h : element < l / size) where
  held : element * size + size ≤ l
  held = inside l size element (size_divides t size es) h

  pub offset_fits : element * size < 2 ^ 64
  offset_fits = omega (arith, held)

  pub place_fits : (start : ℕ) → start < 2 ^ 16 → start + element * size < 2 ^ 64
  place_fits start k = omega (arith, held)
