-- The masked write (document 01: "An accepted write sets each word to (old AND NOT mask) OR (value AND mask); an odd last byte uses the
-- mask's low byte. .. Other bytes stay.").
use Rattle.std.specs.Prelude.{ℕ, ◌%◌, List, [], ◌∷◌, ◌++◌, length, take, drop}
use Rattle.base.specs.Masks.{mix}
use Rattle.base.specs.Numbers.{low_first, number}

-- the old bytes with values written over them, word by word; old bytes that no value is for stay
unfoldable pub masked : ℕ → List ℕ → List ℕ → List ℕ
masked mask [] values = []
masked mask (o ∷ os) [] = o ∷ os
masked mask (o ∷ []) (v ∷ vs) = mix 0xFF (mask % 256) o v ∷ []
masked mask (o ∷ o' ∷ os) (v ∷ []) = mix 0xFF (mask % 256) o v ∷ o' ∷ os
masked mask (o ∷ o' ∷ os) (v ∷ v' ∷ vs) = low_first 2 (mix 0xFFFF mask (number (o ∷ o' ∷ [])) (number (v ∷ v' ∷ []))) ++ masked mask os vs

-- the new bytes of the memory from a place on
unfoldable pub masked_at : List ℕ → ℕ → ℕ → List ℕ → List ℕ
masked_at memory at mask values = masked mask (take (length values) (drop at memory)) values
