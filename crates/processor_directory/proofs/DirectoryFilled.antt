-- The rows that are stored over zeros are processor_spec's directory.
use Rattle.std.specs.Prelude.{Option, None, Some}
use Prim.Native.Nat.{ℕ, zero, suc, ◌+◌, ◌*◌, ◌-◌, ◌/◌, ◌%◌, ◌<◌, ◌≤◌}
use Prim.Native.String.{String}
use mathlib.Core.Path.{◌≡◌, refl, sym, ap, subst, ◌∙◌}
use mathlib.Core.Bool.{Bool, true, false, cond}
use mathlib.Core.List.{List, [], ◌∷◌, ◌++◌, append_assoc}
use native.Mathlib.Nat.{mul-le-mul, mul_comm, le_refl}
use native.Mathlib.Omega.{arith}
use borrow.Author.Tests.{leb-true, eqb-true, eqb-false, ltb-true, ltb-false, lt-ltb, le-ltb, ne_eqb, eq-eqb}
use lib.Dec.{leb, ltb, eqb}
use lib.ListN.{length, set, take, drop, replicate, length-append, length-replicate, length-set, replicate-append-replicate}
use lib.Seq.{take_all, take-append-add, drop-append-add, drop-append-le}
use Rattle.base.specs.Chars.{bytes, spelled}
use Rattle.base.specs.Numbers.{low_first}
use Rattle.base.specs.Put.{put}
use Rattle.base.proofs.Numbers.{low_length}
use Rattle.base.proofs.Parts.{drop_replicate}
use Rattle.base.proofs.Put.{put_one, put_cons}
use Rattle.element_text.specs.Text.{fitted}
use Rattle.directory_sys0.specs.declared.Sys0Info.{Sys0Info}
use Rattle.directory_sys0.specs.Families.{families, family_in, sys0}
use Rattle.processor_spec.specs.declared.FileRecord.{FileRecord}
use Rattle.processor_spec.specs.Directory.{file_row, file_rows, last_number, directory}
use Rattle.processor_spec.specs.Files.{find}
use Rattle.processor_spec.specs.State.{every, ascend, good_table}
use Rattle.processor_spec.proofs.Tests.{and_l, and_r, cases}
use Rattle.processor_spec.proofs.Directory.{fitted_length, directory_length_lem, directory_fits}
use Rattle.processor_table.specs.SurveySteps.{folded}
use Rattle.processor_directory.specs.StoredRows.{row_at, marked_at, marked, stored_row, zeros, blank_of}

-- ---- bytes laid in one of two parts

put_right : (xs ys : List ℕ) (i : ℕ) (bs : List ℕ) → put (xs ++ ys) (length xs + i) bs ≡ xs ++ put ys i bs
unfolding put
put_right xs ys i bs =
    let a : length xs + i + length bs ≡ length xs + (i + length bs) = omega arith in
    rw (a, take-append-add xs ys i, drop-append-add xs ys (i + length bs)) (append_assoc xs (take i ys) (bs ++ drop (i + length bs) ys))

put_left : (xs ys bs : List ℕ) → length bs ≤ length xs → put (xs ++ ys) 0 bs ≡ put xs 0 bs ++ ys
unfolding put
put_left xs ys bs h =
    let a : 0 + length bs ≤ length xs = omega arith in
    rw (drop-append-le (0 + length bs) xs ys a) (sym (append_assoc bs (drop (0 + length bs) xs) ys))

-- longer bytes laid over a row's
put_row : (row : ℕ) (old bs : List ℕ) → length old ≤ length bs → length bs ≤ row → put (fitted row 0 old) 0 bs ≡ fitted row 0 bs
unfolding put fitted
put_row row old bs h l =
    let m : length old ≤ row = omega arith in
    let a : 0 + length bs ≡ length old + (length bs - length old) = omega arith in
    let k : row - length old - (length bs - length old) ≡ row - length bs = omega arith in
    rw (take_all row old m, take_all row bs l, a, drop-append-add old (replicate (row - length old) 0) (length bs - length old), drop_replicate {A = ℕ} (length bs - length old) (row - length old) 0, k)

-- ---- rows, each by the bytes that it begins with

lines : (ℕ → List ℕ) → ℕ → ℕ → ℕ → List ℕ
lines h row n zero = []
lines h row n (suc c) = fitted row 0 (h n) ++ lines h row (suc n) c

lines_same : (g h : ℕ → List ℕ) (row n c : ℕ) → ((k : ℕ) → n ≤ k → k < n + c → g k ≡ h k) → lines g row n c ≡ lines h row n c
unfolding lines
lines_same g h row n zero e = refl
lines_same g h row n (suc c) e =
    rw (e n (omega arith) (omega arith), lines_same g h row (suc n) c (λ k a b. e k (omega arith) (omega arith)))

lines_length : (h : ℕ → List ℕ) (row n c : ℕ) → length (lines h row n c) ≡ row * c
unfolding lines
lines_length h row n zero = omega arith
lines_length h row n (suc c) = rw (length-append, fitted_length, lines_length h row (suc n) c) (omega arith)

lines_none : (row n c : ℕ) → lines (λ _. []) row n c ≡ replicate (row * c) 0
unfolding lines fitted
lines_none row n zero = let e : row * 0 ≡ 0 = omega arith in rw e
lines_none row n (suc c) =
    let e : row * suc c ≡ row + row * c = omega arith in
    let z : row - 0 ≡ row = omega arith in
    let t : take {A = ℕ} row [] ≡ [] = take_all row [] (omega arith) in
    rw (e, lines_none row (suc n) c, z, t) (replicate-append-replicate {A = ℕ} row (row * c) 0)

-- other bytes in one row
abbrev changed : (ℕ → List ℕ) → ℕ → List ℕ → ℕ → List ℕ
changed h m bs k = cond (eqb k m) bs (h k)

changed_at : (h : ℕ → List ℕ) (m : ℕ) (bs : List ℕ) → changed h m bs m ≡ bs
changed_at h m bs = rw (eq-eqb m m refl)

changed_not : (h : ℕ → List ℕ) (m : ℕ) (bs : List ℕ) (k : ℕ) → (k ≡ m → ⊥) → changed h m bs k ≡ h k
changed_not h m bs k n = rw (ne_eqb k m n)

put_lines : (h : ℕ → List ℕ) (row n c j : ℕ) (bs t : List ℕ) → j < c → length (h (n + j)) ≤ length bs → length bs ≤ row
    → put (lines h row n c ++ t) (row * j) bs ≡ lines (changed h (n + j) bs) row n c ++ t
unfolding lines
put_lines h row n zero j bs t l old fits = absurd (omega arith)
put_lines h row n (suc c) zero bs t l old fits =
    let z : n + 0 ≡ n = omega arith in
    let r : row * 0 ≡ 0 = omega arith in
    let o : length (h n) ≤ length bs = subst (λ (k : ℕ). length (h k) ≤ length bs) z old in
    let f : length bs ≤ length (fitted row 0 (h n)) = subst (λ (k : ℕ). length bs ≤ k) (sym (fitted_length row 0 (h n))) fits in
    rw (
      z,
      r,
      changed_at h n bs,
      append_assoc (fitted row 0 (h n)) (lines h row (suc n) c) t,
      put_left (fitted row 0 (h n)) (lines h row (suc n) c ++ t) bs f,
      put_row row (h n) bs o fits,
      lines_same (changed h (n + 0) bs) h row (suc n) c (λ k a b. changed_not h (n + 0) bs k (λ e. omega arith)),
    )
    (sym (append_assoc (fitted row 0 bs) (lines h row (suc n) c) t))
put_lines h row n (suc c) (suc j) bs t l old fits =
    let s : n + suc j ≡ suc n + j = omega arith in
    let r : row * suc j ≡ length (fitted row 0 (h n)) + row * j = rw (fitted_length row 0 (h n)) (omega arith) in
    rw (
      changed_not h (n + suc j) bs n (λ e. omega arith),
      append_assoc (fitted row 0 (h n)) (lines h row (suc n) c) t,
      r,
      put_right (fitted row 0 (h n)) (lines h row (suc n) c ++ t) (row * j) bs,
      ap (λ (k : ℕ). lines (changed h k bs) row (suc n) c) s,
      put_lines h row (suc n) c j bs t (omega arith) (subst (λ (k : ℕ). length (h k) ≤ length bs) s old) fits,
    )
    (sym (append_assoc (fitted row 0 (h n)) (lines (changed h (suc n + j) bs) row (suc n) c) t))

-- ---- the array: zeros, rows, zeros
module _ (first row count : ℕ) (fits : first + row * count ≤ 2793) where
  array : (ℕ → List ℕ) → List ℕ
  array h = replicate first 0 ++ (lines h row 0 count ++ replicate (2793 - (first + row * count)) 0)

  array_length : (h : ℕ → List ℕ) → length (array h) ≡ 2793
  unfolding array
  array_length h = rw (length-append, length-append, length-replicate {A = ℕ}, length-replicate {A = ℕ}, lines_length h row 0 count) (omega arith)

  array_same : (g h : ℕ → List ℕ) → ((k : ℕ) → k < count → g k ≡ h k) → array g ≡ array h
  unfolding array
  array_same g h e = rw (lines_same g h row 0 count (λ k a b. e k (omega arith)))

  array_none : zeros ≡ array (λ _. [])
  unfolding array zeros
  array_none =
      let a : 2793 ≡ first + (row * count + (2793 - (first + row * count))) = omega arith in
      let z : ℕ = 0 in
      ap (λ (n : ℕ). replicate n z) a
      ∙ sym (replicate-append-replicate first (row * count + (2793 - (first + row * count))) z)
      ∙ rw (lines_none row 0 count, replicate-append-replicate (row * count) (2793 - (first + row * count)) z)

  put_array : (h : ℕ → List ℕ) (m : ℕ) (bs : List ℕ) → m < count → length (h m) ≤ length bs → length bs ≤ row → put (array h) (row_at first row m) bs ≡ array (changed h m bs)
  unfolding array
  put_array h m bs l old b =
      let z : 0 + m ≡ m = omega arith in
      let e : row_at first row m ≡ length (replicate {A = ℕ} first 0) + row * m = rw (length-replicate {A = ℕ} first 0) in
      ap (λ (at : ℕ). put (array h) at bs) e
      ∙ put_right (replicate first 0) (lines h row 0 count ++ replicate (2793 - (first + row * count)) 0) (row * m) bs
      ∙ ap (λ (l : List ℕ). replicate first 0 ++ l) (put_lines h row 0 count m bs (replicate (2793 - (first + row * count)) 0) l (subst (λ (k : ℕ). length (h k) ≤ length bs) (sym z) old) b)
      ∙ ap (λ (k : ℕ). array (changed h k bs)) z

  within : (m : ℕ) → m < count → row_at first row m + row ≤ 2793
  within m l =
      let n : row * suc m ≤ row * count = mul-le-mul (le_refl row) l in
      omega (arith, n)

-- ---- "or 81"
above : (k i : ℕ) → k ≤ i → (i ≡ k → ⊥) → suc k ≤ i
above zero zero l n = absurd (n refl)
above zero (suc i) l n = omega arith
above (suc k) zero l n = omega arith
above (suc k) (suc i) l n = let m : suc k ≤ i = above k i (omega arith) (λ e. n (ap suc e)) in omega arith

abbrev no_file : List ℕ
no_file = 0x81 ∷ []

abbrev marks : ℕ → ℕ → List ℕ
marks k i = cond (ltb i k) no_file []

marks_next : (k i : ℕ) → changed (marks k) k no_file i ≡ marks (suc k) i
marks_next k i = by_same (eqb i k) refl
  where
    by_less : (b : Bool) → ltb i k ≡ b → (i ≡ k → ⊥) → cond (ltb i k) no_file [] ≡ cond (ltb i (suc k)) no_file []
    by_less true e n = let l : i < suc k = omega (arith, ltb-true i k e) in rw (e, lt-ltb i (suc k) l)
    by_less false e n = let l : suc k ≤ i = above k i (ltb-false i k e) n in rw (e, le-ltb i (suc k) l)

    by_same : (b : Bool) → eqb i k ≡ b → cond (eqb i k) no_file (cond (ltb i k) no_file []) ≡ cond (ltb i (suc k)) no_file []
    by_same true e = let l : i < suc k = omega (arith, eqb-true i k e) in rw (e, lt-ltb i (suc k) l)
    by_same false e = rw e (by_less (ltb i k) refl (eqb-false i k e))

module _ (first row count : ℕ) (fits : first + row * count ≤ 2793) (wide : 3 ≤ row) where
  marked_is : (k : ℕ) → k ≤ count → marked first row zeros k ≡ array first row count fits (marks k)
  unfolding marked
  marked_is zero l = array_none first row count fits ∙ array_same first row count fits (λ _. []) (marks zero) (λ i b. rw (le-ltb i 0 (omega arith)))
  marked_is (suc k) l =
      let at : row_at first row k < 2793 = omega (arith, within first row count fits k (omega arith)) in
      let len : row_at first row k < length (array first row count fits (marks k)) = subst (λ (n : ℕ). row_at first row k < n) (sym (array_length first row count fits (marks k))) at in
      let None : length (marks k k) ≤ 1 = subst (λ (b : Bool). length (cond b no_file []) ≤ 1) (sym (le-ltb k k (omega arith))) (omega arith) in
      ap (λ (d : List ℕ). marked_at d (row_at first row k)) (marked_is k (omega arith))
      ∙ rw (lt-ltb (row_at first row k) 2793 at)
      (put_one (array first row count fits (marks k)) (row_at first row k) 0x81 len
      ∙ put_array first row count fits (marks k) k no_file (omega arith) None (omega arith)
      ∙ array_same first row count fits (changed (marks k) k no_file) (marks (suc k)) (λ i b. marks_next k i))

  -- ---- "code and length word"
  stored_is : (h : ℕ → List ℕ) (r : FileRecord) → r.number < count → length (h r.number) ≤ 3
      → stored_row first row (array first row count fits h) r ≡ array first row count fits (changed h r.number (r.code ∷ low_first 2 r.length))
  unfolding stored_row low_first
  stored_is h r l old =
      let d : List ℕ = array first row count fits h in
      let at : ℕ = row_at first row r.number in
      let in-it : row_at first row r.number < 2791 = omega (arith, within first row count fits r.number l) in
      let len : length (array first row count fits h) ≡ 2793 = array_length first row count fits h in
      rw (lt-ltb (row_at first row r.number) 2791 in-it) (three d at r.code (r.length % 256) (r.length / 256 % 256) (omega arith)
      ∙ put_array first row count fits h r.number (r.code ∷ (r.length % 256) ∷ (r.length / 256 % 256) ∷ []) l old wide)
    where
      three : (d : List ℕ) (at a b c : ℕ) → at + 2 < length d → set (set (set d at a) (at + 1) b) (at + 2) c ≡ put d at (a ∷ b ∷ c ∷ [])
      three d at a b c h =
          let p : at + 2 ≡ at + 1 + 1 = omega arith in
          let l₁ : length (set d at a) ≡ length d = length-set d at a in
          let l₂ : length (set (set d at a) (at + 1) b) ≡ length d = length-set (set d at a) (at + 1) b ∙ l₁ in
          put_one (set (set d at a) (at + 1) b) (at + 2) c (omega arith)
          ∙ ap (λ (k : ℕ). put (set (set d at a) (at + 1) b) k (c ∷ [])) p
          ∙ put_cons (set d at a) (at + 1) b (c ∷ []) (omega arith)
          ∙ put_cons d at a (b ∷ c ∷ []) (omega arith)

  -- ---- record by record

  abbrev over : Option FileRecord → List ℕ → List ℕ
  over None bs = bs
  over (Some r) bs = r.code ∷ low_first 2 r.length

  absent : (m : ℕ) (rs : List FileRecord) (k : ℕ) → ascend k rs ≡ true → m < k → find m rs ≡ None
  unfolding ascend find
  absent m [] k a l = refl
  absent m (r ∷ rs) k a l =
      let h : k ≤ r.number = leb-true k r.number (and_l _ (ascend (suc r.number) rs) a) in
      rw (ne_eqb r.number m (λ e. omega arith)) (absent m rs (suc r.number) (and_r (leb k r.number) _ a) (omega arith))

  over_short : (o : Option FileRecord) (bs : List ℕ) → length bs ≤ 3 → length (over o bs) ≤ 3
  over_short None bs h = h
  over_short (Some r) bs h = let e : length (low_first 2 r.length) ≡ 2 = low_length 2 r.length in omega arith

  changed_short : (h : ℕ → List ℕ) (r : FileRecord) → ((i : ℕ) → length (h i) ≤ 3) → (i : ℕ) → length (changed h r.number (r.code ∷ low_first 2 r.length) i) ≤ 3
  changed_short h r s i = by_test_lem (eqb i r.number)
    where
      by_test_lem : (b : Bool) → length (cond b (r.code ∷ low_first 2 r.length) (h i)) ≤ 3
      by_test_lem true = over_short (Some r) [] (omega arith)
      by_test_lem false = s i

  filled : (rs : List FileRecord) (k : ℕ) (h : ℕ → List ℕ) → ascend k rs ≡ true → every (λ (r : FileRecord). ltb r.number count) rs ≡ true → ((i : ℕ) → length (h i) ≤ 3)
      → folded (stored_row first row) rs (array first row count fits h) ≡ array first row count fits (λ i. over (find i rs) (h i))
  unfolding folded ascend every find
  filled [] k h a e s = refl
  filled (r ∷ rs) k h a e s =
      ap (folded (stored_row first row) rs) (stored_is h r (ltb-true r.number count (and_l _ (every (λ (x : FileRecord). ltb x.number count) rs) e)) (s r.number))
      ∙ filled rs (suc r.number) (changed h r.number (r.code ∷ low_first 2 r.length)) up (and_r (ltb r.number count) _ e) (changed_short h r s)
      ∙ array_same first row count fits _ _ (λ i b. at i (eqb i r.number) refl)
    where
      up : ascend (suc r.number) rs ≡ true
      up = and_r (leb k r.number) _ a

      at : (i : ℕ) (b : Bool) → eqb i r.number ≡ b
          → over (find i rs) (cond (eqb i r.number) (r.code ∷ low_first 2 r.length) (h i)) ≡ over (cond (eqb r.number i) (Some r) (find i rs)) (h i)
      at i true t =
          let is : i ≡ r.number = eqb-true i r.number t in
          rw (t, eq-eqb r.number i (sym is), absent i rs (suc r.number) up (omega arith))
      at i false t = rw (t, ne_eqb r.number i (λ q. eqb-false i r.number t (sym q)))

-- ---- processor_spec's directory

last_from : (n : ℕ) (rs : List FileRecord) → ascend (suc n) rs ≡ true → n ≤ last_number n rs
unfolding last_number ascend
last_from n [] h = omega arith
last_from n (r ∷ rs) h =
    let a : suc n ≤ r.number = leb-true (suc n) r.number (search and_l) in
    let b : r.number ≤ last_number r.number rs = last_from r.number rs (and_r (leb (suc n) r.number) _ h) in
    omega arith

-- every number of a table that ascends is at most the last
all_below : (k n count : ℕ) (rs : List FileRecord) → ascend k rs ≡ true → last_number n rs < count → every (λ (r : FileRecord). ltb r.number count) rs ≡ true
unfolding every ascend last_number
all_below k n count [] a l = refl
all_below k n count (r ∷ rs) a l =
    let up : ascend (suc r.number) rs ≡ true = and_r (leb k r.number) _ a in
    let h : r.number ≤ last_number r.number rs = last_from r.number rs up in
    rw (lt-ltb r.number count (omega arith)) (all_below (suc r.number) r.number count rs up l)

abbrev row_bytes : Option FileRecord → List ℕ
row_bytes None = no_file
row_bytes (Some r) = r.code ∷ low_first 2 r.length

lines_are : (rs : List FileRecord) (row n c : ℕ) → lines (λ i. row_bytes (find i rs)) row n c ≡ file_rows rs row n c
unfolding lines file_rows
lines_are rs row n zero = refl
lines_are rs row n (suc c) = rw (lines_are rs row (suc n) c, is (find n rs))
  where
    is : (o : Option FileRecord) → fitted row 0 (row_bytes o) ≡ file_row row o
    is None = refl
    is (Some r) = refl

module _ (rs : List FileRecord) (sys : Sys0Info) where
  abbrev first : ℕ
  first = sys.file_position

  abbrev row : ℕ
  row = sys.row_size

  abbrev count : ℕ
  count = suc (last_number 0 rs)

  array_is : (fits : first + row * count ≤ 2793) → array first row count fits (λ i. row_bytes (find i rs)) ≡ fitted 2793 0 (directory rs sys)
  unfolding array fitted directory
  array_is fits =
      let len : length (replicate {A = ℕ} first 0 ++ file_rows rs row 0 count) ≡ first + row * count =
      length-append (replicate first 0) (file_rows rs row 0 count) ∙ rw (length-replicate {A = ℕ}, ← lines_are rs row 0 count, lines_length (λ i. row_bytes (find i rs)) row 0 count) in
      let short : length (replicate {A = ℕ} first 0 ++ file_rows rs row 0 count) ≤ 2793 = subst (λ (n : ℕ). n ≤ 2793) (sym len) fits in
      rw (lines_are rs row 0 count, take_all 2793 (replicate first 0 ++ file_rows rs row 0 count) short, len)
      (sym (append_assoc (replicate first 0) (file_rows rs row 0 count) (replicate (2793 - (first + row * count)) 0)))

  pub directory_filled : ascend 0 rs ≡ true → first + row * count ≤ 2793 → 3 ≤ row → folded (stored_row first row) rs (blank_of first row count) ≡ fitted 2793 0 (directory rs sys)
  unfolding blank_of
  directory_filled up fits wide =
      ap (folded (stored_row first row) rs) (marked_is first row count fits wide count (le_refl count))
      ∙ filled first row count fits wide rs 0 (marks count) up (all_below 0 0 count rs up (omega arith)) (λ i. short (ltb i count))
      ∙ array_same first row count fits _ (λ i. row_bytes (find i rs)) (λ i l. rw (lt-ltb i count l) (same (find i rs)))
      ∙ array_is fits
    where
      short : (b : Bool) → length (cond b no_file []) ≤ 3
      short true = omega arith
      short false = omega arith

      same : (o : Option FileRecord) → over first row count fits wide o no_file ≡ row_bytes o
      same None = refl
      same (Some r) = refl

-- of each family, by one test over their table
family_wide : (xs : List (String × Sys0Info)) (s : List ℕ) → every (λ (x : String × Sys0Info). leb 3 x.1.row_size) xs ≡ true → leb 3 (family_in xs s).row_size ≡ true
unfolding family_in every
family_wide [] s t = refl
family_wide (x ∷ xs) s t =
    cases (λ (sys : Sys0Info). leb 3 sys.row_size ≡ true) (spelled false (bytes x.0) s) x.1 (family_in xs s)
    (λ _. search and_l) (λ _. family_wide xs s (and_r (leb 3 x.1.row_size) _ t))

-- The array that the rows of a good table are stored in is the directory, and zeros behind it.
pub directory_right : (rs : List FileRecord) (text : List ℕ) → good_table rs ≡ true
    → folded (stored_row (sys0 text).file_position (sys0 text).row_size) rs (blank_of (sys0 text).file_position (sys0 text).row_size (suc (last_number 0 rs)))
    ≡ fitted 2793 0 (directory rs (sys0 text))
unfolding good_table sys0 every
directory_right rs text g =
    let up : ascend 0 rs ≡ true = search (and_l, and_r) in
    let len : length (directory rs (sys0 text)) ≡ (sys0 text).file_position + suc (last_number 0 rs) * (sys0 text).row_size = directory_length_lem rs (sys0 text) in
    let fits : (sys0 text).file_position + suc (last_number 0 rs) * (sys0 text).row_size ≤ 2793 = subst (λ (n : ℕ). n ≤ 2793) len (directory_fits rs text g) in
    let comm : suc (last_number 0 rs) * (sys0 text).row_size ≡ (sys0 text).row_size * suc (last_number 0 rs) = mul_comm (suc (last_number 0 rs)) (sys0 text).row_size in
    directory_filled rs (sys0 text) up (omega arith) (leb-true 3 (sys0 text).row_size (family_wide families (take 4 text) refl))
