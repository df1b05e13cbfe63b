-- Which commands the rule lets in: every one that has no file place, whose file place has an open file's number, or that asks for the directory or the
-- datalog; and no other.
use Rattle.std.specs.Prelude.{Option, None, Some}
use Prim.Native.Nat.{ℕ}
use mathlib.Core.Path.{◌≡◌, refl, sym, ap, ◌∙◌}
use mathlib.Core.Bool.{Bool, true, false, not, ◌&&◌, ◌||◌, cond}
use mathlib.Core.List.{List, [], ◌∷◌}
use native.Mathlib.Omega.{arith}
use lib.Dec.{eqb}
use Rattle.processor_spec.specs.Frame.{well_formed, cmd, function}
use Rattle.processor_spec.specs.Params.{asks_directory, asks_datalog}
use Rattle.theorem_closed_files.specs.Closed.{file_place, type_place, there, avoids_in, avoids_by, avoids, place_behind, file_place_of}

not_some : {n : ℕ} {X : Type 0} → ◌≡◌ {A = Option ℕ} None (Some n) → X
not_some e = let z : ◌≡◌ {A = ℕ} 0 1 = cc in absurd (omega arith)

last_two : (x a b : Bool) → (a || b) ≡ true → (x || a || b) ≡ true
last_two true a b e = refl
last_two false a b e = e

module _ (closed : ℕ → Bool) (c : List ℕ) where
  pub no_place_avoids : file_place_of c ≡ None → avoids closed c ≡ true
  unfolding file_place_of avoids avoids_in avoids_by
  no_place_avoids = go (well_formed c) (cmd c) (eqb (cmd c) 0x0F) refl (function c)
    where
      go : (w : Bool) (code : ℕ) (k : Bool) → eqb code 0x0F ≡ k → (f : List ℕ) → cond (w && k) (place_behind f) None ≡ None → (not w || avoids_in closed code f) ≡ true
      go false code k q f e = refl
      go true code k q [] e = refl
      go true code false q (fn ∷ p) e = rw q
      go true code true q (fn ∷ p) e = rw (q, e)

  pub open_place_avoids : (n : ℕ) → file_place_of c ≡ Some n → closed n ≡ false → avoids closed c ≡ true
  unfolding file_place_of avoids avoids_in avoids_by
  open_place_avoids n = go (well_formed c) (cmd c) (eqb (cmd c) 0x0F) refl (function c)
    where
      go : (w : Bool) (code : ℕ) (k : Bool) → eqb code 0x0F ≡ k → (f : List ℕ) → cond (w && k) (place_behind f) None ≡ Some n → closed n ≡ false → (not w || avoids_in closed code f) ≡ true
      go false code k q f e o = refl
      go true code k q [] e o = refl
      go true code false q (fn ∷ p) e o = rw q
      go true code true q (fn ∷ p) e o = rw (q, e, o)

  pub asking_avoids : (n fn : ℕ) (p : List ℕ) → file_place_of c ≡ Some n → function c ≡ fn ∷ p → (asks_directory fn n || there (asks_datalog fn) (type_place p)) ≡ true → avoids closed c ≡ true
  unfolding file_place_of avoids avoids_in avoids_by
  asking_avoids n fn p e f a = go (well_formed c) (cmd c) (eqb (cmd c) 0x0F) refl (function c) e f
    where
      go : (w : Bool) (code : ℕ) (k : Bool) → eqb code 0x0F ≡ k → (g : List ℕ) → cond (w && k) (place_behind g) None ≡ Some n → g ≡ fn ∷ p → (not w || avoids_in closed code g) ≡ true
      go false code k q g e f = not_some e
      go true code false q g e f = not_some e
      go true code true q g e f =
          let h : file_place p ≡ Some n = sym (ap place_behind f) ∙ e in
          rw (f, q, h) (last_two (not (closed n)) (asks_directory fn n) (there (asks_datalog fn) (type_place p)) a)

  pub closed_place_counts : (n fn : ℕ) (p : List ℕ) → file_place_of c ≡ Some n → function c ≡ fn ∷ p → closed n ≡ true → asks_directory fn n ≡ false → there (asks_datalog fn) (type_place p) ≡ false
      → avoids closed c ≡ false
  unfolding file_place_of avoids avoids_in avoids_by
  closed_place_counts n fn p e f o d l = go (well_formed c) (cmd c) (eqb (cmd c) 0x0F) refl (function c) e f
    where
      go : (w : Bool) (code : ℕ) (k : Bool) → eqb code 0x0F ≡ k → (g : List ℕ) → cond (w && k) (place_behind g) None ≡ Some n → g ≡ fn ∷ p → (not w || avoids_in closed code g) ≡ false
      go false code k q g e f = not_some e
      go true code false q g e f = not_some e
      go true code true q g e f =
          let h : file_place p ≡ Some n = sym (ap place_behind f) ∙ e in
          rw (f, q, h, o, d, l)
