-- The element size of a type code.
use Rattle.std.proofs.Common.{ℕ, ◌≡◌, ◌≤◌, ◌<◌, refl, ap, List, [], ◌∷◌, arith, Option, None, Some, find}
use borrow.Author.Tests.{leb-true, ne_eqb}
use lib.Dec.{leb, eqb, lit≤}
use Rattle.file_type.specs.declared.FileType.{FileType}
use Rattle.file_type.specs.Table.{row, all, of_code, simulated_size, element_size}
use Rattle.file_type.proofs.FileTypes.{each, code_most}

-- at most as many bytes as ST has
pub element_most : (code : ℕ) → element_size code ≤ 84
unfolding element_size
element_most code = go (of_code code)
  where
    go : (o : Option FileType) → simulated_size o ≤ 84
    go None = lit≤ tt
    go (Some t) = leb-true (simulated_size (Some t)) 84 (each (λ (t : FileType). leb (simulated_size (Some t)) 84) refl t)

-- a code above a byte is no type's
none_above : (code : ℕ) (ts : List FileType) → 255 < code → None ≡ find (λ (t : FileType). eqb (row t).code code) ts
none_above code [] h = refl
none_above code (t ∷ ts) h = rw (ne_eqb (row t).code code (λ e. absurd (omega (arith, code_most t, e)))) (none_above code ts h)

pub size_above : (code : ℕ) → 255 < code → 0 ≡ element_size code
unfolding element_size of_code
size_above code h = ap simulated_size (none_above code all h)
