-- Laws of the two calls' answers.
use Prim.Native.Nat.{ℕ, ◌+◌, ◌≤◌, ◌<◌}
use mathlib.Core.Path.{◌≡◌, refl, ap, sym, ◌∙◌}
use mathlib.Core.Bool.{Bool, true, false, cond}
use mathlib.Core.List.{List, ◌++◌}
use native.Mathlib.Nat.{zero-add}
use native.Mathlib.Omega.{arith}
use borrow.Author.Tests.{lt-ltb, le-ltb, eq-eqb, ne_eqb}
use lib.Dec.{ltb}
use lib.ListN.{length, drop}
use Rattle.std.specs.Prelude.{Option, None, Some, Result, Ok, Err}
use Rattle.std.specs.Option.{ok_or}
use Rattle.base.specs.declared.refusal.Refusal.{Refusal}
use Rattle.base.specs.declared.refusal.Refusal.TheVariants.{LongDirectory, NoRowSize, CutRow, MoreFilesThanRoom}
use Rattle.directory_row.specs.declared.Row.{Row}
use Rattle.directory.specs.Passes.{count_from, lay}
use Rattle.directory.specs.Rows.{rows, any_cut, files_from, within, listed_in, listed, Lists}
use Rattle.directory.proofs.FirstPass.{count_is}

-- ---- 10, or the files
module _ (l fs : List (List ℕ)) (n : ℕ) (e : n ≡ length fs) where
  past : length l < n → Lists (within (length l) fs) l (Err MoreFilesThanRoom) l
  past h = let t : ltb (length l) (length fs) ≡ true = lt-ltb (length l) (length fs) (omega arith) in rw t (record { answer = refl; memory = refl })

  within_room : {m : List (List ℕ)} → n ≤ length l → m ≡ lay l 0 fs → Lists (within (length l) fs) l (Ok n) m
  unfolding lay
  within_room {m} h f =
      let t : ltb (length l) (length fs) ≡ false = le-ltb (length l) (length fs) (omega arith) in
      rw t (record { answer = ap Ok e; memory = f ∙ ap (λ (k : ℕ). fs ++ drop k l) (zero-add (length fs)) })

-- ---- what was counted
module _ (rs : List Row) (c : Option ℕ) (e : c ≡ count_from 0 rs) where
  by_cut : (b : Bool) → any_cut rs ≡ b → c ≡ cond b None (Some (0 + length (files_from 0 rs)))
  by_cut b f = e ∙ count_is 0 0 rs ∙ ap (λ (x : Bool). cond x None (Some (0 + length (files_from 0 rs)))) f

  some_cut : c ≡ None → any_cut rs ≡ true
  some_cut f = go (any_cut rs) refl
    where
      go : (b : Bool) → any_cut rs ≡ b → any_cut rs ≡ true
      go true g = g
      go false g = let k : c ≡ Some (0 + length (files_from 0 rs)) = by_cut false g in let z : ⊥ = cc in absurd z

  none_cut : (n : ℕ) → c ≡ Some n → (any_cut rs ≡ false) × (n ≡ length (files_from 0 rs))
  none_cut n f = go (any_cut rs) refl
    where
      go : (b : Bool) → any_cut rs ≡ b → (any_cut rs ≡ false) × (n ≡ length (files_from 0 rs))
      go true g = let k : c ≡ None = by_cut true g in let z : ⊥ = cc in absurd z
      go false g =
          let k : c ≡ Some (0 + length (files_from 0 rs)) = by_cut false g in
          let q : n ≡ 0 + length (files_from 0 rs) = cc in
          (g, omega arith)

-- ---- 7, 8, 9
module _ (s : List ℕ) (first size : ℕ) where
  pub too_long : (l : List (List ℕ)) → 65535 < length s → Lists (listed first size s (length l)) l (Err LongDirectory) l
  unfolding listed
  too_long l h = rw (lt-ltb 65535 (length s) h) (record { answer = refl; memory = refl })

  module _ (short : length s ≤ 65535) where
    pub no_size : (l : List (List ℕ)) → size ≡ 0 → Lists (listed first size s (length l)) l (Err NoRowSize) l
    unfolding listed
    no_size l e = rw (le-ltb 65535 (length s) short, eq-eqb _ _ e) (record { answer = refl; memory = refl })

    module _ (sized : size ≡ 0 → ⊥) where
      asked : (room : ℕ) → listed first size s room ≡ listed_in room (rows first size s)
      unfolding listed
      asked room = rw (le-ltb 65535 (length s) short, ne_eqb _ _ sized)

      module _ (c : Option ℕ) (e : c ≡ count_from 0 (rows first size s)) (x : Result ℕ Refusal) (v : x ≡ ok_or c CutRow) where
        pub cut_row : (l : List (List ℕ)) (r : Result ℕ Refusal) (k : Refusal) → x ≡ Err k → r ≡ Err k → Lists (listed first size s (length l)) l r l
        cut_row l r k f g = go c refl
          where
            go : (o : Option ℕ) → c ≡ o → Lists (listed first size s (length l)) l r l
            go None h =
                let i : Err k ≡ Err CutRow = sym f ∙ v ∙ ap (λ (o : Option ℕ). ok_or o CutRow) h in
                rw (asked (length l), some_cut (rows first size s) c e h) (record { answer = g ∙ i; memory = refl })
            go (Some n) h = let i : Err k ≡ Ok n = sym f ∙ v ∙ ap (λ (o : Option ℕ). ok_or o CutRow) h in let z : ⊥ = cc in absurd z

        module _ (n : ℕ) (f : x ≡ Ok n) where
          counted : c ≡ Some n
          counted = go c refl
            where
              go : (o : Option ℕ) → c ≡ o → c ≡ Some n
              go None h = let i : Ok n ≡ Err CutRow = sym f ∙ v ∙ ap (λ (o : Option ℕ). ok_or o CutRow) h in let z : ⊥ = cc in absurd z
              go (Some m) h = let i : Ok n ≡ Ok m = sym f ∙ v ∙ ap (λ (o : Option ℕ). ok_or o CutRow) h in cc

          pub found : n ≡ length (files_from 0 (rows first size s))
          found = (none_cut (rows first size s) c e n counted).1

          found_listed : (l m : List (List ℕ)) (r : Result ℕ Refusal) → Lists (within (length l) (files_from 0 (rows first size s))) l r m → Lists (listed first size s (length l)) l r m
          found_listed l m r w = rw (asked (length l), (none_cut (rows first size s) c e n counted).0) w

          pub no_room : (l : List (List ℕ)) → length l < n → Lists (listed first size s (length l)) l (Err MoreFilesThanRoom) l
          no_room l h = found_listed l l _ (past l (files_from 0 (rows first size s)) n found h)

          pub all_laid : (l m : List (List ℕ)) → n ≤ length l → m ≡ lay l 0 (files_from 0 (rows first size s)) → Lists (listed first size s (length l)) l (Ok n) m
          all_laid l m h g = found_listed l m _ (within_room l (files_from 0 (rows first size s)) n found h g)
