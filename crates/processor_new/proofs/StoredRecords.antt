-- Records stored one by one, from the table's start.
use Prim.Native.Nat.{ℕ, ◌+◌, ◌≤◌, min}
use mathlib.Core.Path.{◌≡◌, refl, sym, ap, ◌∙◌}
use mathlib.Core.List.{List}
use native.Mathlib.Numerals.{add-one}
use native.Mathlib.Omega.{arith}
use lib.ListN.{length, set}
use Rattle.processor_spec.specs.declared.FileRecord.{FileRecord}
use Rattle.processor_build_spec.specs.Plans.{record_of, stored, laid_of}

module _ (fs : List (List ℕ)) (old : List FileRecord) where
  pub none_yet : old ≡ stored fs 0 old
  unfolding stored
  none_yet = refl

  pub one_more : (i : ℕ) (rows : List FileRecord) (r : FileRecord) → rows ≡ stored fs i old → r ≡ record_of fs i → set rows i r ≡ stored fs (i + 1) old
  unfolding stored
  one_more i rows r e f = rw (e, f) (sym (ap (λ (k : ℕ). stored fs k old) (add-one i)))

  pub in_all : (count m i : ℕ) (rows : List FileRecord) → m ≡ min count (length old) → i ≤ m → m ≤ i → rows ≡ stored fs i old → rows ≡ laid_of fs count old
  unfolding laid_of
  in_all count m i rows e l g f = let k : i ≡ min count (length old) = omega arith in f ∙ ap (λ (n : ℕ). stored fs n old) k
