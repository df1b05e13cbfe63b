-- The layout by the processor's family.
use Prim.Native.Nat.{ℕ, ◌≤◌, ◌<◌, ◌^◌, min}
use Prim.Native.String.{String}
use mathlib.Core.Path.{◌≡◌, refl, sym, ap, ◌∙◌}
use mathlib.Core.Bool.{Bool, true, false, ◌&&◌}
use mathlib.Core.List.{List, [], ◌∷◌}
use native.Mathlib.Omega.{arith}
use borrow.Author.Tests.{leb-true, leb-false}
use lib.Dec.{leb}
use lib.ListN.{length, take}
use lib.Seq.{length-take-le, take_all}
use Rattle.base.specs.Chars.{bytes, spelled}
use Rattle.directory_sys0.specs.declared.Sys0Info.{Sys0Info}
use Rattle.directory_sys0.specs.Families.{families, family_in, sys0}
use Rattle.processor_spec.specs.State.{every}
use Rattle.processor_spec.proofs.Tests.{and_l, and_r, cases}
use Rattle.processor_query.specs.Query.{layout_of}

-- its first row and its row size are bytes, by one test over the families
abbrev narrow : Sys0Info → Bool
narrow sys = leb sys.file_position 255 && leb sys.row_size 255

narrow_in : (xs : List (String × Sys0Info)) (s : List ℕ) → every (λ (x : String × Sys0Info). narrow x.1) xs ≡ true → narrow (family_in xs s) ≡ true
unfolding family_in every
narrow_in [] s t = refl
narrow_in (x ∷ xs) s t =
    cases (λ (sys : Sys0Info). narrow sys ≡ true) (spelled false (bytes x.0) s) x.1 (family_in xs s)
    (λ _. and_l (narrow x.1) _ t) (λ _. narrow_in xs s (and_r (narrow x.1) _ t))

narrow_family : (text : List ℕ) → narrow (sys0 text) ≡ true
unfolding sys0 every
narrow_family text = narrow_in families (take 4 text) refl

module _ (info : Sys0Info) (text : List ℕ) (e : info ≡ sys0 text) where
  narrow_info : narrow info ≡ true
  narrow_info = rw e (narrow_family text)

  pub first_narrow : info.file_position < 2 ^ 8
  first_narrow = omega (arith, leb-true info.file_position 255 (and_l (leb info.file_position 255) _ narrow_info))

  pub row_narrow : info.row_size < 2 ^ 8
  row_narrow = omega (arith, leb-true info.row_size 255 (and_r (leb info.file_position 255) _ narrow_info))

-- the text of a length above that of its array is all of it
module _ (text : List ℕ) (len n : ℕ) (full : length text ≡ 11) (e : n ≡ min len 11) where
  pub text_length_lem : n ≡ length (take n text)
  text_length_lem = sym (length-take-le n text (omega arith))

  same_text_lem : take n text ≡ take len text
  same_text_lem = go (leb len 11) refl
    where
      go : (b : Bool) → leb len 11 ≡ b → take n text ≡ take len text
      go true t = let l : len ≤ 11 = leb-true len 11 t in let q : n ≡ len = omega arith in rw q
      go false t =
          let l : 11 < len = leb-false len 11 t in
          let a : length text ≤ len = omega arith in
          let b : length text ≤ n = omega arith in
          take_all n text b ∙ sym (take_all len text a)

  pub layout_is : (info : Sys0Info) → info ≡ sys0 (take n text) → layout_of info ≡ layout_of (sys0 (take len text))
  layout_is info q = ap layout_of (q ∙ ap sys0 same_text_lem)
