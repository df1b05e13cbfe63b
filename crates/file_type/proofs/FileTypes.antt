-- Laws of the table of file types.
use Rattle.std.proofs.Common.{ℕ, ◌≡◌, ◌≤◌, ◌<◌, refl, ap, sym, ◌∙◌, Bool, true, false, cond, List, [], ◌∷◌, Option, None, Some, find}
use Rattle.std.specs.List.{list_all}
use borrow.Author.Tests.{ltb-true, leb-true, ne_eqb}
use Rattle.std.proofs.lemmas.Bool.{and_parts}
use lib.Dec.{eqb, ltb, leb}
use Rattle.base.specs.Chars.{spelled}
use Rattle.base.proofs.Unmatched.{NoneOf, Unlike, unlike}
use Rattle.file_type.specs.declared.FileType.{FileType}
use Rattle.file_type.specs.declared.FileType.TheVariants.{O, I, S, B, T, C, R, N, F, ST, A, L, MG, PD, PLS}
use Rattle.file_type.specs.Table.{row, all, of_code, of_name}

-- the code of each type is that type's alone
pub own_code : (t : FileType) → Some t ≡ of_code (row t).code
unfolding of_code
own_code O = refl
own_code I = refl
own_code S = refl
own_code B = refl
own_code T = refl
own_code C = refl
own_code R = refl
own_code N = refl
own_code F = refl
own_code ST = refl
own_code A = refl
own_code L = refl
own_code MG = refl
own_code PD = refl
own_code PLS = refl

-- and so is its name
pub own_name : (t : FileType) → Some t ≡ of_name (row t).name
unfolding of_name spelled
own_name O = refl
own_name I = refl
own_name S = refl
own_name B = refl
own_name T = refl
own_name C = refl
own_name R = refl
own_name N = refl
own_name F = refl
own_name ST = refl
own_name A = refl
own_name L = refl
own_name MG = refl
own_name PD = refl
own_name PLS = refl

abbrev code_of : FileType → ℕ
code_of t = (row t).code

-- a code that is none of theirs
none_passes : (ts : List FileType) (c : ℕ) → Unlike code_of ts c → None ≡ find (λ (t : FileType). eqb (row t).code c) ts
none_passes [] c h = refl
none_passes (t ∷ ts) c h = rw (ne_eqb (row t).code c (λ (e : (row t).code ≡ c). h.0 (sym e))) (none_passes ts c h.1)

pub no_code : (c : ℕ) → NoneOf code_of (Unit {0}) all c → None ≡ of_code c
unfolding of_code
no_code c h = none_passes all c (unlike code_of all c h)

-- the first type of that name
pub named_first : (s : List ℕ) {o : Option FileType} → o ≡ find (λ (t : FileType). spelled false (row t).name s) all → o ≡ of_name s
unfolding of_name
named_first s e = e

-- ---- what a test says of all fifteen, it says of each, since each is found by its code
found_passes : (test p : FileType → Bool) (ts : List FileType) (t : FileType) → list_all test ts ≡ true → Some t ≡ find p ts → test t ≡ true
found_passes test p [] t h e = cc
found_passes test p (x ∷ ts) t h e = go (p x) (found_passes test p ts t (and_parts _ _ h).1) e
  where
    go : (b : Bool) → (Some t ≡ find p ts → test t ≡ true) → Some t ≡ cond b (Some x) (find p ts) → test t ≡ true
    go true k f = let g : t ≡ x = cc in ap test g ∙ (and_parts _ _ h).0
    go false k f = k f

pub each : (test : FileType → Bool) → list_all test all ≡ true → (t : FileType) → test t ≡ true
unfolding of_code
each test h t = found_passes test (λ (x : FileType). eqb (row x).code (row t).code) all t h (own_code t)

pub size_some : (t : FileType) → 0 < (row t).size
size_some t = ltb-true 0 (row t).size (each (λ (t : FileType). ltb 0 (row t).size) refl t)

pub size_most : (t : FileType) → (row t).size ≤ 84
size_most t = leb-true (row t).size 84 (each (λ (t : FileType). leb (row t).size 84) refl t)

pub code_most : (t : FileType) → (row t).code ≤ 255
code_most t = leb-true (row t).code 255 (each (λ (t : FileType). leb (row t).code 255) refl t)
