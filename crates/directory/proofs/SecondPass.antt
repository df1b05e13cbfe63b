-- Laws of the second pass.
use Prim.Native.Nat.{ℕ, suc, ◌+◌, ◌/◌, ◌≤◌, ◌<◌}
use mathlib.Core.Path.{◌≡◌, refl, ap, sym, ◌∙◌}
use mathlib.Core.Logic.{◌⊎◌, inl, inr}
use mathlib.Core.Bool.{Bool, true, false, ◌&&◌, cond}
use mathlib.Core.List.{List, [], ◌∷◌, ◌++◌, append_assoc}
use native.Mathlib.Nat.{add-zero}
use native.Mathlib.Numerals.{add-one}
use native.Mathlib.Omega.{arith}
use lib.Dec.{eqb}
use lib.ListN.{length, take, drop, get_or, set, length-set, take-append-drop}
use lib.Seq.{take-suc-set, drop-set-lt}
use mir.Syntax.{w32}
use mir.Val.{Fits}
use Rattle.file_type.specs.declared.FileType.{FileType}
use Rattle.file_type.specs.Table.{row, of_code}
use Rattle.directory_row.specs.declared.Row.{Row}
use Rattle.directory_row.specs.declared.Row.TheVariants as row·
use Rattle.directory_row.specs.Row.{row_of, number_of}
use Rattle.directory.specs.declared.rows.Turn.{Turn}
use Rattle.directory.specs.Passes.{lay, Turned}
use Rattle.directory.specs.Rows.{rows, files_from}
use Rattle.directory.proofs.RowLaws.{rows_end, rows_next}

-- ---- the number of a file
module _ (t : FileType) (n : ℕ) where
  number_most : (k : ℕ) → n ≤ k + 1 → number_of t n ≤ k + 1
  number_most k h = go (eqb n 0 && eqb (row t).code 0x83)
    where
      go : (b : Bool) → cond b 1 n ≤ k + 1
      go true = omega arith
      go false = h

  pub number_fits : (m : ℕ) → m ≡ number_of t n → n ≤ 65536 → Fits w32 (m + 1)
  number_fits m e h = record { fits = omega (arith, number_most 65536 (omega arith)) }

-- ---- files laid over a memory
pub lay_none : (l : List (List ℕ)) (at : ℕ) → lay l at [] ≡ l
unfolding lay
lay_none l at = rw (add-zero, take-append-drop)

pub lay_cons : (l : List (List ℕ)) (at : ℕ) (f : List ℕ) (fs : List (List ℕ)) → at < length l → lay (set l at f) (at + 1) fs ≡ lay l at (f ∷ fs)
unfolding lay
lay_cons l at f fs h =
    let a : at + 1 + length fs ≡ at + suc (length fs) = omega arith in
    let b : at < at + suc (length fs) = omega arith in
    rw (a, drop-set-lt (at + suc (length fs)) l at f b, add-one, take-suc-set l at f h) (append_assoc (take at l) (f ∷ []) (fs ++ drop (at + suc (length fs)) l))

-- ---- a row
-- a file's row alone has one
pub row_room : (n k room : ℕ) (r : Row) (t : FileType) (bytes : ℕ) → k + length (files_from n (r ∷ [])) ≤ room → r ≡ row·.File t bytes → k < room
unfolding files_from
row_room n k room r t bytes h e =
    let f : length (files_from n (r ∷ [])) ≡ 1 = ap (λ (x : Row). length (files_from n (x ∷ []))) e in
    omega arith

-- and no more than with other rows behind it
fewer : (n : ℕ) (r : Row) (rs : List Row) → length (files_from n (r ∷ [])) ≤ length (files_from n (r ∷ rs))
unfolding files_from
fewer n (row·.File t bytes) rs = omega arith
fewer n row·.Cut rs = omega arith
fewer n row·.Reserved rs = omega arith
fewer n row·.Other rs = omega arith

module _ (l : List (List ℕ)) (p : Turn) (r : Row) where
  pub turn_file : (t : FileType) (bytes c n e b : ℕ) → p.at < length l → r ≡ row·.File t bytes → b ≡ bytes → n ≡ number_of t p.number → c ≡ (row t).code → e ≡ bytes / (row t).size
      → Turned l p r (record { at = p.at + 1; number = n + 1 }) (set l p.at (c ∷ n ∷ e ∷ b ∷ []))
  unfolding files_from
  turn_file t bytes c n e b h er eb en ec ee = rw (er, eb, en, ec, ee) record {
    kept = length-set l p.at _;
    left = λ rs. lay_cons l p.at _ _ h;
    files = λ rs. omega arith;
    small = λ k g. omega (arith, number_most t p.number k g);
  }

  -- a row that names no file
  no_file : (n : ℕ) → ((rs : List Row) → files_from p.number (r ∷ rs) ≡ files_from n rs) → n ≤ p.number + 1 → Turned l p r (record { at = p.at; number = n }) l
  no_file n e h = record {
    kept = refl;
    left = λ rs. ap (lay l p.at) (sym (e rs));
    files = λ rs. ap (λ (fs : List (List ℕ)). p.at + length fs) (sym (e rs));
    small = λ k g. omega arith;
  }

  -- a row that leaves all as it is
  pub turn_none : (r ≡ row·.Cut) ⊎ (r ≡ row·.Other) → Turned l p r p l
  unfolding files_from
  turn_none (inl e) = no_file p.number (λ rs. rw e) (omega arith)
  turn_none (inr e) = no_file p.number (λ rs. rw e) (omega arith)

  pub turn_reserved : r ≡ row·.Reserved → Turned l p r (record { at = p.at; number = p.number + 1 }) l
  unfolding files_from
  turn_reserved e = no_file (p.number + 1) (λ rs. rw e) (omega arith)

-- ---- the loop: what is left to lay gives what the whole gives
module _ (size : ℕ) (h : 0 < size) (s : List ℕ) where
  -- no row is left
  pub lay_ended : (at : ℕ) (l whole : List (List ℕ)) (p : Turn) → lay l p.at (files_from p.number (rows at size s)) ≡ whole → length s ≤ at → l ≡ whole
  unfolding files_from
  lay_ended at l whole p left g = sym (lay_none l p.at) ∙ ap (λ (rs : List Row). lay l p.at (files_from p.number rs)) (sym (rows_end size h s at g)) ∙ left

  module _ (at : ℕ) (l whole : List (List ℕ)) (n : ℕ) (p : Turn) (left : lay l p.at (files_from p.number (rows at size s)) ≡ whole) (files : p.at + length (files_from p.number (rows at size s)) ≡ n) where
    -- no file is left
    pub lay_done : n ≤ p.at → l ≡ whole
    lay_done g = sym (lay_none l p.at) ∙ ap (lay l p.at) (sym (none (files_from p.number (rows at size s)) (omega arith))) ∙ left
      where
        none : (fs : List (List ℕ)) → length fs ≤ 0 → fs ≡ []
        none [] k = refl
        none (f ∷ fs) k = absurd (omega arith)

    module _ (r : Row) (g : at < length s) (er : r ≡ row_of (of_code (get_or s at 0)) (get_or s at 0) (drop (at + 1) s)) where
      here : r ∷ rows (at + size) size s ≡ rows at size s
      here = ap (λ (x : Row). x ∷ rows (at + size) size s) er ∙ sym (rows_next size h s at g)

      pub row_within : n ≤ length l → p.at + length (files_from p.number (r ∷ [])) ≤ length l
      row_within k = omega (arith, fewer p.number r (rows (at + size) size s), ap (λ (rs : List Row). length (files_from p.number rs)) here)

      module _ (q : Turn) (m : List (List ℕ)) (w : Turned l p r q m) where
        pub left_turn : lay m q.at (files_from q.number (rows (at + size) size s)) ≡ whole
        left_turn = w.left (rows (at + size) size s) ∙ ap (λ (rs : List Row). lay l p.at (files_from p.number rs)) here ∙ left

        pub files_turn : q.at + length (files_from q.number (rows (at + size) size s)) ≡ n
        files_turn = w.files (rows (at + size) size s) ∙ ap (λ (rs : List Row). p.at + length (files_from p.number rs)) here ∙ files

        pub room_turn : n ≤ length l → n ≤ length m
        room_turn k = omega (arith, w.kept)

        pub number_turn : p.number ≤ at + 1 → q.number ≤ at + size + 1
        number_turn k = omega (arith, w.small at k)

        -- the row was the last
        pub lay_last : length s ≤ at + size → m ≡ whole
        lay_last k = lay_ended (at + size) m whole q left_turn k
