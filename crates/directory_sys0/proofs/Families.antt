-- A family is looked for name by name.
use Prim.Native.Nat.{ℕ}
use Prim.Native.String.{String}
use mathlib.Core.Path.{◌≡◌, sym}
use mathlib.Core.Bool.{Bool, true, false}
use mathlib.Core.List.{List, [], ◌∷◌}
use Rattle.base.specs.Chars.{bytes, spelled}
use Rattle.directory_sys0.specs.declared.Sys0Info.{Sys0Info}
use Rattle.directory_sys0.specs.Families.{family_in, layout}

module _ (name : String) (s : List ℕ) (v : Sys0Info) (xs : List (String × Sys0Info)) {r : Sys0Info} {b : Bool} where
  pub here : b ≡ spelled false (bytes name) s → b ≡ true → r ≡ v → r ≡ family_in ((name, v) ∷ xs) s
  unfolding family_in
  here e t h = rw (sym e, t) h

  pub behind : b ≡ spelled false (bytes name) s → b ≡ false → r ≡ family_in xs s → r ≡ family_in ((name, v) ∷ xs) s
  unfolding family_in
  behind e t more = rw (sym e, t) more

-- two at once, since a search goes only so deep
pub behind_both : (name name' : String) (s : List ℕ) (v v' : Sys0Info) (xs : List (String × Sys0Info)) {r : Sys0Info} {b b' : Bool}
    → b ≡ spelled false (bytes name) s → b ≡ false → b' ≡ spelled false (bytes name') s → b' ≡ false
    → r ≡ family_in xs s → r ≡ family_in ((name, v) ∷ (name', v') ∷ xs) s
behind_both name name' s v v' xs e t e' t' more = behind name s v ((name', v') ∷ xs) e t (behind name' s v' xs e' t' more)

module _ (s : List ℕ) {r : Sys0Info} where
  pub other : r ≡ layout 79 10 0x01 0x23 0x04 0 → r ≡ family_in [] s
  unfolding family_in
  other e = e
