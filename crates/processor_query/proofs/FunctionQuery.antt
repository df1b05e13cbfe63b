-- What the bytes behind the frame say, question by question.
use Rattle.std.specs.Prelude.{Option, None, Some}
use Prim.Native.Nat.{ℕ, ◌-◌, ◌≤◌, ◌<◌}
use mathlib.Core.Path.{◌≡◌, refl, sym, ap, ◌∙◌}
use mathlib.Core.Bool.{Bool, true, false}
use mathlib.Core.List.{List}
use native.Mathlib.Omega.{arith}
use borrow.Author.Tests.{le-leb, lt-leb}
use lib.ListN.{length, drop, length-drop}
use Rattle.parser_spec.specs.Parts.{then}
use Rattle.parser_spec.proofs.Held.{that, no_some}
use Rattle.parser_spec.proofs.Behind.{Leaves}
use Rattle.directory_sys0.specs.Families.{sys0}
use Rattle.processor_spec.specs.Params.{Header, several, header, known_function, writes, asks_directory, asks_datalog, last_address, mask_word, value_bytes}
use Rattle.processor_params.specs.declared.Header as params
use Rattle.processor_params.specs.Header.{header_by, header_of}
use Rattle.processor_params.specs.Take.{place_of, placed}
use Rattle.processor_params.proofs.Taking.{place_is, Found, none_placed, some_placed}
use Rattle.processor_query.specs.declared.Query.{Query}
use Rattle.processor_query.specs.declared.Wants.TheVariants as wants
use Rattle.processor_query.specs.Query.{header_in, plainly, directory_query, access_query, file_query, said, or_bad, wanted, function_query}
use Rattle.processor_query.proofs.ParamsLeave.{last_leaves, mask_leaves, header_leaves}

-- ---- a file: the last address, the mask, the value bytes
module _ (s : List ℕ) (fn at : ℕ) (h : Header) (l : at ≤ length s) (a : Option (ℕ × ℕ)) (ea : a ≡ placed s (last_address fn (drop at s))) where
  pub file_no_sub : (q : Option Query) → a ≡ None → q ≡ None → q ≡ said (file_query s fn h (drop at s))
  unfolding file_query then
  file_no_sub q m e = rw (none_placed s (last_address fn (drop at s)) (sym m ∙ ea)) e

  module _ (sub n : ℕ) (ga : a ≡ Some (sub, n)) where
    first : Found s (last_address fn (drop at s)) sub n
    first = some_placed s l (last_leaves fn (drop at s)) (sym ga ∙ ea)

    pub sub_within : n ≤ length s
    sub_within = first.within

    module _ (b : Option (ℕ × ℕ)) (eb : b ≡ placed s (mask_word fn (drop n s))) where
      pub file_no_mask : (q : Option Query) → b ≡ None → q ≡ None → q ≡ said (file_query s fn h (drop at s))
      unfolding file_query then
      file_no_mask q m e = rw (first.is, none_placed s (mask_word fn (drop n s)) (sym m ∙ eb)) e

      module _ (mask k : ℕ) (gb : b ≡ Some (mask, k)) where
        second : Found s (mask_word fn (drop n s)) mask k
        second = some_placed s first.within (mask_leaves fn (drop n s)) (sym gb ∙ eb)

        pub mask_within : k ≤ length s
        mask_within = second.within

        there : place_of s (drop k s) ≡ k
        there = place_is s k second.within

        module _ (w : Bool) (ew : w ≡ writes fn) where
          pub file_read : (q : Query) → w ≡ false → q ≡ access_query wants.Read h sub mask k → Some q ≡ said (file_query s fn h (drop at s))
          unfolding file_query then value_bytes
          file_read q t e = let f : writes fn ≡ false = sym ew ∙ t in rw (first.is, second.is, f, there, e)

          pub file_cut : w ≡ true → length s - k < h.size → None ≡ said (file_query s fn h (drop at s))
          unfolding file_query then value_bytes several
          file_cut t j =
              let f : writes fn ≡ true = sym ew ∙ t in
              let n : length (drop k s) < h.size = simp length-drop j in
              rw (first.is, second.is, f, lt-leb h.size (length (drop k s)) n)

          pub file_write : (q : Query) → w ≡ true → h.size ≤ length s - k → q ≡ access_query wants.Write h sub mask k → Some q ≡ said (file_query s fn h (drop at s))
          unfolding file_query then value_bytes several
          file_write q t j e =
              let f : writes fn ≡ true = sym ew ∙ t in
              let n : h.size ≤ length (drop k s) = simp length-drop j in
              rw (first.is, second.is, f, le-leb h.size (length (drop k s)) n, there, e)

-- ---- CMD 0x0F
module _ (text s : List ℕ) (fn : ℕ) (q : Query) (o : Option params.Header) (eo : o ≡ header_of s) where
  pub no_header : (r : Option Query) → o ≡ None → r ≡ None → wanted r ≡ function_query text fn s (header s)
  unfolding function_query header_of
  no_header r m e = rw e (go (header s) (sym m ∙ eo))
    where
      go : (x : Option (Header × List ℕ)) → None ≡ header_by s x → plainly wants.Bad ≡ function_query text fn s x
      go None f = refl
      go (Some x) f = no_some f

  module _ (h : params.Header) (m : o ≡ Some h) where
    -- the header, and what stands behind it
    record There : Type 0 where
      is : header s ≡ Some (header_in h, drop h.next s)
      within : h.next ≤ length s

    found : There
    unfolding header_of
    found = go (header s) (header_leaves s) refl (sym m ∙ eo)
      where
        go : (x : Option (Header × List ℕ)) → Leaves s x → header s ≡ x → Some h ≡ header_by s x → There
        go None l g f = no_some (sym f)
        go (Some x) (that b) g f =
            let e : ◌≡◌ {A = params.Header} h (record { size = x.0.size; file = x.0.file; code = x.0.code; element = x.0.element; next = place_of s x.1 }) = cc in
            let n : h.next ≡ length s - length x.1 = ap (λ (z : params.Header). z.next) e in
            let r : x.1 ≡ drop h.next s = sym b.is ∙ ap (λ (k : ℕ). drop k s) (sym n) in
            let p : x.0 ≡ header_in h = sym (ap header_in e) in
            record {
              is = g ∙ ap {B = Option (Header × List ℕ)} (λ (k : Header). Some (k, x.1)) p ∙ ap {B = Option (Header × List ℕ)} (λ (k : List ℕ). Some (header_in h, k)) r;
              within = omega (arith, n);
            }

    pub header_within : h.next ≤ length s
    header_within = found.within

    module _ (k : Bool) (ek : k ≡ known_function fn) where
      pub not_known : k ≡ false → q ≡ plainly wants.Illegal → q ≡ function_query text fn s (header s)
      unfolding function_query
      not_known u e = let f : known_function fn ≡ false = sym ek ∙ u in rw (found.is, f) e

      module _ (u : k ≡ true) (d : Bool) (ed : d ≡ asks_directory fn h.file) where
        known : known_function fn ≡ true
        known = sym ek ∙ u

        pub of_directory : d ≡ true → q ≡ directory_query (sys0 text) (header_in h) → q ≡ function_query text fn s (header s)
        unfolding function_query
        of_directory v e = let f : asks_directory fn h.file ≡ true = sym ed ∙ v in rw (found.is, known, f) e

        module _ (v : d ≡ false) (x : Bool) (ex : x ≡ asks_datalog fn h.code) where
          other : asks_directory fn h.file ≡ false
          other = sym ed ∙ v

          pub of_datalog : x ≡ true → q ≡ plainly wants.Entry → q ≡ function_query text fn s (header s)
          unfolding function_query
          of_datalog w e = let f : asks_datalog fn h.code ≡ true = sym ex ∙ w in rw (found.is, known, other, f) e

          pub of_file : (r : Option Query) → x ≡ false → r ≡ said (file_query s fn (header_in h) (drop h.next s)) → wanted r ≡ function_query text fn s (header s)
          unfolding function_query or_bad
          of_file r w e =
              let f : asks_datalog fn h.code ≡ false = sym ex ∙ w in
              rw (found.is, known, other, f, e) (go (file_query s fn (header_in h) (drop h.next s)))
            where
              go : (y : Option (Query × List ℕ)) → wanted (said y) ≡ or_bad y
              go None = refl
              go (Some y) = refl
