-- Where an access begins, and parts of memories.
use Rattle.std.specs.Prelude.{Option, None, Some}
use Prim.Native.Nat.{ℕ, ◌+◌, ◌-◌, ◌*◌, ◌≤◌, ◌<◌, ◌^◌, min}
use mathlib.Core.Path.{◌≡◌, refl, sym, ap, ◌∙◌}
use mathlib.Core.Bool.{Bool, true, false}
use mathlib.Core.List.{List, []}
use native.Mathlib.Nat.{mul-le-mul}
use native.Mathlib.Omega.{arith}
use mir.Syntax.{w64}
use mir.Val.{Fits}
use borrow.Author.Tests.{leb-true, leb-false, le-leb, lt-leb, eq-eqb, ne_eqb}
use lib.Dec.{leb}
use lib.ListN.{length, take, drop, length-take, length-drop, drop_of_length-le}
use lib.Seq.{take_all, take-nil}
use Rattle.file_type.specs.Table.{element_size}
use Rattle.file_type.proofs.ElementSizes.{element_most}
use Rattle.processor_spec.specs.declared.FileRecord.{FileRecord}
use Rattle.processor_query.specs.declared.Query.{Query}
use Rattle.processor_table.specs.declared.Seen.{Seen}
use Rattle.processor_locate.specs.Locate.{locate_by}

-- ---- a part
pub part_none : (s : List ℕ) (at n : ℕ) → length s ≤ at → [] ≡ take n (drop at s)
part_none s at n h = sym (ap (take n) (drop_of_length-le s h) ∙ take-nil n)

pub part_there : (s : List ℕ) (at n e : ℕ) → e ≡ min n (length s - at) → take (at + e - at) (drop at s) ≡ take n (drop at s)
part_there s at n e q =
    let k : at + e - at ≡ e = omega arith in
    let l : length (drop at s) ≡ length s - at = length-drop at s in
    ap (λ (j : ℕ). take j (drop at s)) k ∙ go (leb n (length (drop at s))) refl l
  where
    go : (b : Bool) → leb n (length (drop at s)) ≡ b → length (drop at s) ≡ length s - at → take e (drop at s) ≡ take n (drop at s)
    go true t l = let j : n ≤ length (drop at s) = leb-true n (length (drop at s)) t in let p : e ≡ n = omega arith in rw p
    go false t l =
        let j : length (drop at s) < n = leb-false n (length (drop at s)) t in
        let a : length (drop at s) ≤ e = omega arith in
        let b : length (drop at s) ≤ n = omega arith in
        take_all e (drop at s) a ∙ sym (take_all n (drop at s) b)

pub part_length : (s bs : List ℕ) (at n : ℕ) → bs ≡ take n (drop at s) → n < 2 ^ 8 → length bs ≤ 255
part_length s bs at n e h = rw (e, length-take) (omega arith)

-- ---- the offset is small
module _ (a b code : ℕ) (h : a < 2 ^ 16) (e : b ≡ element_size code) where
  product : a * b ≤ 65535 * 84
  product =
      let l : a ≤ 65535 = omega arith in
      let k : b ≤ 84 = omega (arith, element_most code) in
      mul-le-mul {n₂ = 65535} l k

  pub product_fits : Fits w64 (a * b)
  product_fits = record { fits = omega (arith, product) }

  module _ (n sub : ℕ) (w : n ≤ 2) (g : sub < 2 ^ 16) where
    words : n * sub ≤ 2 * 65535
    words = let l : sub ≤ 65535 = omega arith in mul-le-mul {n₂ = 2} w l

    pub offset_fits : Fits w64 (a * b + n * sub)
    offset_fits = record { fits = omega (arith, product, words) }

    pub end_fits : (size : ℕ) → size < 2 ^ 8 → Fits w64 (a * b + n * sub + size)
    end_fits size k = record { fits = omega (arith, product, words) }

-- ---- the place
module _ (s : Seen) (q : Query) where
  pub no_record : (o : Option ℕ) → s.found ≡ None → o ≡ None → o ≡ locate_by s q
  unfolding locate_by
  no_record o h e = rw h e

  module _ (r : FileRecord) (h : s.found ≡ Some r) where
    pub no_type_lem : (r.code ≡ q.code → ⊥) → None ≡ locate_by s q
    unfolding locate_by
    no_type_lem ne = rw (h, ne_eqb r.code q.code ne)

    -- the numbers of the query and the record, as the code widens them
    module _ (t : r.code ≡ q.code) {e el su si le : ℕ} (ee : e ≡ element_size r.code) (eel : el ≡ q.element) (esu : su ≡ q.sub) (esi : si ≡ q.size) (ele : le ≡ r.length) where
      pub too_long : le < el * e + 2 * su + si → None ≡ locate_by s q
      unfolding locate_by
      too_long l =
          let k : r.length < q.element * element_size r.code + 2 * q.sub + q.size = rw (ele, eel, ee, esu, esi) at l in
          rw (h, eq-eqb r.code q.code t, lt-leb (q.element * element_size r.code + 2 * q.sub + q.size) r.length k)

      pub located : el * e + 2 * su + si ≤ le → (st : ℕ) → st ≡ r.start → Some (st + (el * e + 2 * su)) ≡ locate_by s q
      unfolding locate_by
      located l st est =
          let k : q.element * element_size r.code + 2 * q.sub + q.size ≤ r.length = rw (ele, eel, ee, esu, esi) at l in
          rw (h, eq-eqb r.code q.code t, le-leb (q.element * element_size r.code + 2 * q.sub + q.size) r.length k, est, eel, esu, ee)
