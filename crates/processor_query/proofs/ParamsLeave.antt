-- What a part of the parameters leaves stands at the end of what it was given.
use Prim.Native.Nat.{ℕ}
use mathlib.Core.List.{List}
use lib.Dec.{eqb}
use Rattle.parser_spec.specs.Parts.{give}
use Rattle.parser_spec.proofs.Behind.{Leaves, either, then_leaves, give_leaves}
use Rattle.processor_spec.specs.Params.{number_of, address, header, last_address, mask_word}
use Rattle.processor_params.proofs.ParamsLeave.{number_leaves, address_leaves}

pub last_leaves : (fn : ℕ) (s : List ℕ) → Leaves s (last_address fn s)
unfolding last_address
last_leaves fn s = either (eqb fn 0xA1) (give 0) address s (give_leaves s) (address_leaves s)

pub mask_leaves : (fn : ℕ) (s : List ℕ) → Leaves s (mask_word fn s)
unfolding mask_word
mask_leaves fn s = either (eqb fn 0xAB) (number_of 2) (give 0xFFFF) s (number_leaves 2 s) (give_leaves s)

pub header_leaves : (s : List ℕ) → Leaves s (header s)
unfolding header
header_leaves s =
    then_leaves (number_leaves 1 s) λ size r. then_leaves (address_leaves r) λ file r1. then_leaves (number_leaves 1 r1) λ code r2. then_leaves (address_leaves r2) λ element r3. give_leaves r3
