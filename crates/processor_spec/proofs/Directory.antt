-- The directory has at most 2,793 bytes, and a row for every file.
use Rattle.std.specs.Prelude.{Option, None, Some}
use Prim.Native.Nat.{ℕ, zero, suc, ◌+◌, ◌*◌, ◌≤◌}
use Prim.Native.String.{String}
use mathlib.Core.Path.{◌≡◌, refl, sym, subst}
use mathlib.Core.Bool.{Bool, true, false, cond}
use mathlib.Core.List.{List, [], ◌∷◌}
use native.Mathlib.Nat.{mul-le-mul_right}
use native.Mathlib.Omega.{arith}
use borrow.Author.Tests.{leb-true, eqb-true}
use lib.Dec.{leb, eqb, lit≤}
use lib.ListN.{length, take, length-append, length-take, length-replicate}
use Rattle.base.specs.Chars.{bytes, spelled}
use Rattle.parser_spec.proofs.Held.{no_some}
use Rattle.element_text.specs.Text.{fitted}
use Rattle.directory_sys0.specs.declared.Sys0Info.{Sys0Info}
use Rattle.directory_sys0.specs.Families.{families, family_in, sys0}
use Rattle.processor_spec.specs.declared.FileRecord.{FileRecord}
use Rattle.processor_spec.specs.Directory.{file_row, file_rows, last_number, directory}
use Rattle.processor_spec.specs.Files.{find}
use Rattle.processor_spec.specs.State.{every, good_record, ascend, good_table}
use Rattle.processor_spec.proofs.Tests.{and_l, and_r, cases}

pub fitted_length : (n fill : ℕ) (s : List ℕ) → length (fitted n fill s) ≡ n
unfolding fitted
fitted_length n fill s = rw (length-append, length-take, length-replicate) (omega arith)

row_length : (size : ℕ) (o : Option FileRecord) → length (file_row size o) ≡ size
row_length size None = fitted_length size 0 _
row_length size (Some r) = fitted_length size 0 _

rows_length : (rs : List FileRecord) (size n count : ℕ) → length (file_rows rs size n count) ≡ count * size
unfolding file_rows
rows_length rs size n zero = omega arith
rows_length rs size n (suc count) = simp (length-append, row_length, rows_length rs size (suc n) count) (omega arith)

pub directory_length_lem : (rs : List FileRecord) (sys : Sys0Info) → length (directory rs sys) ≡ sys.file_position + suc (last_number 0 rs) * sys.row_size
unfolding directory
directory_length_lem rs sys = simp (length-append, length-replicate, rows_length)

last_small : (n : ℕ) (rs : List FileRecord) → n ≤ 255 → every good_record rs ≡ true → last_number n rs ≤ 255
unfolding last_number every good_record
last_small n [] h g = h
last_small n (r ∷ rs) h g = last_small r.number rs (leb-true r.number 255 (search (and_l, and_r))) (and_r (good_record r) _ g)

-- of each family, by one test over their table
abbrev fits_all : Sys0Info → Bool
fits_all sys = leb (sys.file_position + 256 * sys.row_size) 2793

family_in_lem : (xs : List (String × Sys0Info)) (s : List ℕ) → every (λ (x : String × Sys0Info). fits_all x.1) xs ≡ true → fits_all (family_in xs s) ≡ true
unfolding family_in every
family_in_lem [] s t = refl
family_in_lem (x ∷ xs) s t =
    cases (λ (sys : Sys0Info). fits_all sys ≡ true) (spelled false (bytes x.0) s) x.1 (family_in xs s)
    (λ _. search and_l) (λ _. family_in_lem xs s (and_r (fits_all x.1) _ t))

family_fits : (text : List ℕ) → (sys0 text).file_position + 256 * (sys0 text).row_size ≤ 2793
unfolding sys0 every
family_fits text =
    leb-true ((sys0 text).file_position + 256 * (sys0 text).row_size) 2793 (family_in_lem families (take 4 text) refl)

pub directory_fits : (rs : List FileRecord) (text : List ℕ) → good_table rs ≡ true → length (directory rs (sys0 text)) ≤ 2793
unfolding good_table
directory_fits rs text g =
    let small : last_number 0 rs ≤ 255 = last_small 0 rs (lit≤ tt) (search (and_l, and_r)) in
    let more : suc (last_number 0 rs) * (sys0 text).row_size ≤ 256 * (sys0 text).row_size = mul-le-mul_right (sys0 text).row_size (omega arith) in
    subst (λ (n : ℕ). n ≤ 2793) (sym (directory_length_lem rs (sys0 text))) (omega (arith, family_fits text))

-- every file of a table that ascends has its row
last_from : (n : ℕ) (rs : List FileRecord) → ascend (suc n) rs ≡ true → n ≤ last_number n rs
unfolding last_number ascend
last_from n [] h = omega arith
last_from n (r ∷ rs) h =
    let a : suc n ≤ r.number = leb-true (suc n) r.number (search and_l) in
    let b : r.number ≤ last_number r.number rs = last_from r.number rs (and_r (leb (suc n) r.number) _ h) in
    omega arith

listed_from : (k m n : ℕ) (rs : List FileRecord) (r : FileRecord) → ascend k rs ≡ true → find n rs ≡ Some r → n ≤ last_number m rs
unfolding last_number ascend find
listed_from k m n [] r h e = no_some e
listed_from k m n (x ∷ xs) r h e = go (eqb x.number n) refl e (λ f. listed_from (suc x.number) x.number n xs r hs f)
  where
    hs : ascend (suc x.number) xs ≡ true
    hs = and_r (leb k x.number) _ h

    go : (b : Bool) → eqb x.number n ≡ b → cond b (Some x) (find n xs) ≡ Some r → (find n xs ≡ Some r → n ≤ last_number x.number xs) → n ≤ last_number x.number xs
    go true t e ih = subst (λ (j : ℕ). j ≤ last_number x.number xs) (eqb-true x.number n t) (last_from x.number xs hs)
    go false t e ih = ih e

pub listed : (rs : List FileRecord) (n : ℕ) (r : FileRecord) → good_table rs ≡ true → find n rs ≡ Some r → n ≤ last_number 0 rs
unfolding good_table
listed rs n r g e = listed_from 0 0 n rs r (search (and_l, and_r)) e
