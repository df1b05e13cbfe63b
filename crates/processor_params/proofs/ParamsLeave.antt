-- What a part of the parameters leaves stands at the end of what it was given.
use Prim.Native.Nat.{ℕ}
use mathlib.Core.List.{List}
use borrow.Author.Tests.{leb-true}
use lib.Dec.{leb, eqb}
use lib.ListN.{length}
use Rattle.parser_spec.specs.Parts.{give}
use Rattle.parser_spec.proofs.Held.{nothing, that, and_next}
use Rattle.parser_spec.proofs.Behind.{Leaves, behind_drop, either, then_leaves, give_leaves}
use Rattle.processor_spec.specs.Params.{several, number_of, address}
use Rattle.processor_spec.proofs.Tests.{cases}

several_leaves : (k : ℕ) (s : List ℕ) → Leaves s (several k s)
unfolding several
several_leaves k s = cases (Leaves s) (leb k (length s)) _ _ (λ t. that (behind_drop k s (leb-true k (length s) t))) (λ _. nothing)

pub number_leaves : (k : ℕ) (s : List ℕ) → Leaves s (number_of k s)
number_leaves k s = and_next (several_leaves k s) (λ bs r b. that b)

pub address_leaves : (s : List ℕ) → Leaves s (address s)
unfolding address
address_leaves s = then_leaves (number_leaves 1 s) λ b r. either (eqb b 0xFF) (number_of 2) (give b) r (number_leaves 2 r) (give_leaves r)
