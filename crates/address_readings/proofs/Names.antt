-- The names of timers and counters: how many letters each has, and that they are bytes below 128.
use Rattle.std.specs.Prelude.{Some}
use Prim.Native.Nat.{ℕ, ◌<◌, ◌≤◌}
use Prim.Native.String.{String}
use mathlib.Core.Path.{◌≡◌, refl, ap, ◌∙◌}
use mathlib.Core.List.{List, [], ◌∷◌}
use mathlib.Core.Bool.{Bool, true, false, ◌&&◌, cond}
use native.Mathlib.Omega.{arith}
use borrow.Author.Tests.{eqb-true, ltb-true, lt-ltb, ltb-false}
use lib.Dec.{ltb, eqb}
use lib.ListN.{length}
use Rattle.base.specs.Chars.{bytes, upper, spelled}
use Rattle.base.proofs.Chars.{letter_high}
use Rattle.base.proofs.EveryPlace.{both}
use Rattle.parser_spec.proofs.Held.{Holds, nothing, that}
use Rattle.address_spec.specs.Spelling.{ct_names, name_in, ascii}
use Rattle.address_readings.specs.Places.{letters_of}

-- ---- a text that spells a name
-- a capital letter below 128 is one of a byte below 128
pub small_upper : (b a : ℕ) → upper b ≡ a → a < 128 → b < 128
small_upper b a e h = go (ltb b 128) refl
  where
    go : (t : Bool) → ltb b 128 ≡ t → b < 128
    go true f = ltb-true b 128 f
    go false f =
        let k : 128 ≤ b = ltb-false b 128 f in
        let l : 122 < b = omega arith in
        absurd (omega (arith, e, letter_high true b refl l))

record Spelt (name s : List ℕ) : Type 0 where
  long : length s ≡ length name
  small : ascii s ≡ true

spelt : (name s : List ℕ) → ascii name ≡ true → spelled true name s ≡ true → Spelt name s
unfolding spelled ascii
spelt [] [] h e = record { long = refl; small = refl }
spelt [] (b ∷ s) h e = absurd (let w : ◌≡◌ {A = ℕ} 0 1 = cc in omega arith)
spelt (a ∷ name) [] h e = absurd (let w : ◌≡◌ {A = ℕ} 0 1 = cc in omega arith)
spelt (a ∷ name) (b ∷ s) h e =
    let p = both (eqb (upper b) a) (spelled true name s) e in
    let q = both (ltb a 128) (ascii name) h in
    let r = spelt name s q.1 p.1 in
    record {
      long = omega (arith, r.long);
      small = ap (λ (t : Bool). t && ascii s) (lt-ltb b 128 (small_upper b a (eqb-true (upper b) a p.0) (ltb-true a 128 q.0))) ∙ r.small;
    }

-- ---- a name
pub record Name (s : List ℕ) (n : ℕ) (r : List ℕ) : Type 0 where
  pub letters : length s ≡ letters_of n
  pub small : ascii s ≡ true
  pub end : r ≡ []

abbrev fit : List (String × ℕ) → Bool
fit [] = true
fit (x ∷ xs) = eqb (length (bytes x.0)) (letters_of x.1) && (ascii (bytes x.0) && fit xs)

name_in_lem : (xs : List (String × ℕ)) (s : List ℕ) → fit xs ≡ true → Holds (Name s) (name_in xs s)
unfolding name_in
name_in_lem [] s h = nothing
name_in_lem (x ∷ xs) s h =
    let p = both (eqb (length (bytes x.0)) (letters_of x.1)) (ascii (bytes x.0) && fit xs) h in
    let q = both (ascii (bytes x.0)) (fit xs) p.1 in
    go (spelled true (bytes x.0) s) refl (eqb-true _ _ p.0) q.0 (name_in_lem xs s q.1)
  where
    go : (t : Bool) → spelled true (bytes x.0) s ≡ t → length (bytes x.0) ≡ letters_of x.1 → ascii (bytes x.0) ≡ true → Holds (Name s) (name_in xs s) → Holds (Name s) (cond t (Some (x.1, [])) (name_in xs s))
    go true e l a k = let r = spelt (bytes x.0) s a e in that (record { letters = r.long ∙ l; small = r.small; end = refl })
    go false e l a k = k

pub name_held : (s : List ℕ) → Holds (Name s) (name_in ct_names s)
unfolding ct_names ascii
name_held s = name_in_lem ct_names s refl
