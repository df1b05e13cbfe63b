-- A command that avoids the closed files asks for the bytes of an open file, or of none.
use Rattle.std.specs.Prelude.{Option, None, Some}
use Prim.Native.Nat.{ℕ}
use mathlib.Core.Path.{◌≡◌, refl, sym, subst, ◌∙◌}
use mathlib.Core.Bool.{Bool, true, false, not, ◌||◌}
use mathlib.Core.List.{List, ◌∷◌}
use borrow.Author.Tests.{eq-eqb}
use lib.Dec.{eqb}
use Rattle.parser_spec.specs.Parts.{Part, then}
use Rattle.parser_spec.proofs.Held.{Holds, nothing, that, and_any, held_of}
use Rattle.processor_spec.specs.declared.FileRecord.{FileRecord}
use Rattle.processor_spec.specs.Ask.{ask}
use Rattle.processor_spec.specs.Frame.{well_formed, cmd, function}
use Rattle.processor_spec.specs.Params.{number_of, address, Header, header, asks_directory, asks_datalog}
use Rattle.processor_spec.proofs.Asked.{Asked, Allows, ask_asked}
use Rattle.processor_spec.proofs.Tests.{or_r}
use Rattle.theorem_closed_files.specs.Closed.{value, file_place, type_place, avoids_by, avoids_in, avoids}

-- two readings that begin with the same part
both : {A B C : Type 0} (R : Option (B × List ℕ) → Option (C × List ℕ) → Type 0) (o : Option (A × List ℕ)) {k : A → Part B} {j : A → Part C}
    → R None None → ((a : A) (s : List ℕ) → R (k a s) (j a s)) → R (then o k) (then o j)
unfolding then
both R None n f = n
both R (Some x) n f = f x.0 x.1

-- the header's file and type stand in these places
abbrev Place : (Header → ℕ) → Option (Header × List ℕ) → Option (ℕ × List ℕ) → Type 0
Place f x y = Holds (λ (h : Header) (r : List ℕ). value y ≡ Some (f h)) x

file_place_lem : (s : List ℕ) → Holds (λ (h : Header) (r : List ℕ). file_place s ≡ Some h.file) (header s)
unfolding header file_place
file_place_lem s =
    both (Place (λ h. h.file)) (number_of 1 s) nothing
    (λ size r. both (Place (λ h. h.file)) (address r) nothing
    (λ file r1. and_any (number_of 1 r1)
    (λ code r2. and_any (address r2) (λ element r3. that refl))))

type_place_lem : (s : List ℕ) → Holds (λ (h : Header) (r : List ℕ). type_place s ≡ Some h.code) (header s)
unfolding header type_place
type_place_lem s =
    both (Place (λ h. h.code)) (number_of 1 s) nothing
    (λ size r. both (Place (λ h. h.code)) (address r) nothing
    (λ file r1. both (Place (λ h. h.code)) (number_of 1 r1) nothing
    (λ code r2. and_any (address r2) (λ element r3. that refl))))

module _ (closed : ℕ → Bool) where
  abbrev pub Open : ℕ → Type 0
  Open n = closed n ≡ false

  open_file : (c x y : Bool) → (not c || x || y) ≡ true → x ≡ false → y ≡ false → c ≡ false
  open_file false x y h d g = refl
  open_file true true y h d g = d
  open_file true false y h d g = sym h ∙ g

  allows : (fn : ℕ) (p : List ℕ) → avoids_by closed fn p ≡ true → (rs : List FileRecord) → Allows Open rs fn (header p)
  unfolding avoids_by
  allows fn p h rs x e nd nl =
      let f : file_place p ≡ Some x.0.file = held_of (file_place_lem p) e in
      let t : type_place p ≡ Some x.0.code = held_of (type_place_lem p) e in
      open_file (closed x.0.file) (asks_directory fn x.0.file) (asks_datalog fn x.0.code) (rw (f, t) at h) nd nl

  pub open_asked : (rs : List FileRecord) (text : List ℕ) (c : List ℕ) → well_formed c ≡ true → avoids closed c ≡ true
      → Asked Open rs (ask rs text (cmd c) (function c))
  unfolding avoids avoids_in
  open_asked rs text c w h = ask_asked Open rs text (cmd c) (function c) (λ fn ps e f. allows fn ps (go fn ps e f) rs)
    where
      inside : avoids_in closed (cmd c) (function c) ≡ true
      inside = or_r (not (well_formed c)) _ h (rw w)

      go : (fn : ℕ) (ps : List ℕ) → function c ≡ fn ∷ ps → cmd c ≡ 0x0F → avoids_by closed fn ps ≡ true
      go fn ps e f =
          let i : (not (eqb (cmd c) 0x0F) || avoids_by closed fn ps) ≡ true = subst (λ (p : List ℕ). avoids_in closed (cmd c) p ≡ true) e inside in
          or_r (not (eqb (cmd c) 0x0F)) _ i (rw (eq-eqb (cmd c) 0x0F f))
