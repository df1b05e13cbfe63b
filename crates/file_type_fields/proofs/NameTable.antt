-- Laws of the table of names.
use Rattle.std.proofs.Common.{ℕ, ◌≡◌, refl, sym, Bool, true, not, List, [], ◌∷◌, map, Option, position, Bor}
use Rattle.std.proofs.lemmas.List.{length-map}
use Rattle.std.specs.List.{prefix_len}
use Rattle.base.specs.Chars.{spelled}
use Rattle.file_type.specs.Table.{place}

prefix_len-map : {X Y : Type 0} (f : X → Y) (p : Y → Bool) (xs : List X) → prefix_len p (map f xs) ≡ prefix_len (λ x. p (f x)) xs
prefix_len-map f p [] = refl
prefix_len-map f p (x ∷ xs) = rw (prefix_len-map f p xs)

-- a name's place among texts
pub placed_text : (ns : List (Bor (List ℕ))) (s : List ℕ) {names : List (List ℕ)} {o : Option ℕ} → map (λ n. n.now) ns ≡ names → o ≡ position (λ n. spelled true n.now s) ns → o ≡ place names s
unfolding place
placed_text ns s {names} {o} g e = rw (sym g, length-map ns (λ n. n.now), prefix_len-map (λ n. n.now) (λ n. not (spelled true n s)) ns) e
