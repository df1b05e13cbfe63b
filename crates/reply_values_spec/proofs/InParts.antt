-- The values of data in parts, by the place and the length of the last one: every part before it is whole. The rows are computed first.
use Rattle.std.specs.Prelude.{Option, None, Some}
use Prim.Native.Nat.{ℕ, zero, suc, ◌+◌, ◌-◌, ◌*◌, ◌≤◌, ◌<◌}
use mathlib.Core.Path.{◌≡◌, refl, ap, sym, ◌∙◌}
use mathlib.Core.List.{List, [], ◌∷◌, map}
use native.Mathlib.Nat.{suc-mul, zero-mul, add_comm}
use native.Mathlib.Omega.{arith}
use borrow.Author.Tests.{le-leb, lt-leb}
use lib.ListN.{length, take, drop, length-drop, drop_of_length-le}
use lib.Seq.{take_all, drop-drop, length-take-le}
use Rattle.reply_values_spec.specs.declared.DataType.{DataType}
use Rattle.reply_values_spec.specs.declared.DataType.TheVariants.{Int, DInt, Real, Ascii, Line, No}
use Rattle.reply_values_spec.specs.Values.{Value, value_of, decoded, least, parts_in, parts, onto, collect, value_at}

-- ---- one part
module _ (k : DataType) (p : List ℕ) where
  pub too_short : length p < least k → decoded k p ≡ None
  unfolding decoded
  too_short h = rw (lt-leb (least k) (length p) h)

  pub is_decoded : least k ≤ length p → decoded k p ≡ value_of k p
  unfolding decoded
  is_decoded h = rw (le-leb (least k) (length p) h)

pub has_value : (k : DataType) (p : List ℕ) → least k ≤ 84 → (v : Value) × (value_of k p ≡ Some v)
has_value Int p h = (_, refl)
has_value DInt p h = (_, refl)
has_value Real p h = (_, refl)
has_value Ascii p h = (_, refl)
has_value Line p h = (_, refl)
has_value No p h = absurd (omega arith)

pub long_enough : (k : DataType) (p : List ℕ) → least k ≤ length p → length p ≤ 84 → (v : Value) × (decoded k p ≡ Some v)
long_enough k p h g = let v = has_value k p (omega arith) in (v.0, is_decoded k p h ∙ v.1)

-- ---- an index past the last value
pub past_last : (vs : List Value) (i : ℕ) → length vs ≤ i → value_at i vs ≡ None
unfolding value_at
past_last [] i h = refl
past_last (v ∷ vs) zero h = absurd (omega arith)
past_last (v ∷ vs) (suc i) h = past_last vs i (omega arith)

-- ---- all parts
-- all values are there, so many, and which one each is
pub record Collected (o : Option (List Value)) (n : ℕ) (each : ℕ → Option Value) : Type 0 where
  pub all : List Value
  pub is : o ≡ Some all
  pub count : length all ≡ n
  pub its : (i : ℕ) → i < n → value_at i all ≡ each i

-- the value of a part by its place, and all of them
abbrev pub each_of : DataType → ℕ → List ℕ → ℕ → Option Value
each_of k size s i = decoded k (take size (drop (i * size) s))

abbrev pub all_of : DataType → ℕ → ℕ → List ℕ → Option (List Value)
all_of k size turns s = collect (map (decoded k) (parts_in turns size s))

-- no part is left of no bytes; the first part, and those behind it; a single part
none_left : (size turns : ℕ) → parts_in turns size [] ≡ []
unfolding parts_in
none_left size zero = refl
none_left size (suc turns) = refl

first_part : (size turns : ℕ) (s : List ℕ) → 0 < length s → length s ≤ suc turns → parts_in (suc turns) size s ≡ take size s ∷ parts_in turns size (drop size s)
unfolding parts_in
first_part size turns [] h g = absurd (omega arith)
first_part size turns (b ∷ s) h g = refl

pub one_part_lem : (size : ℕ) (s : List ℕ) → 0 < length s → length s ≤ size → parts size s ≡ s ∷ []
one_part_lem size [] h g = absurd (omega arith)
one_part_lem size (b ∷ s) h g =
    first_part size (length s) (b ∷ s) h (omega arith) ∙ rw (take_all size (b ∷ s) g, drop_of_length-le (b ∷ s) g, none_left size (length s))

module _ (k : DataType) (size : ℕ) (most : size ≤ 84) where
  with_first : (v : Value) (turns n : ℕ) (s : List ℕ) → 0 < length s → length s ≤ suc turns → decoded k (take size s) ≡ Some v → Collected (all_of k size turns (drop size s)) n (each_of k size (drop size s))
      → Collected (all_of k size (suc turns) s) (suc n) (each_of k size s)
  unfolding collect value_at
  with_first v turns n s h g e c = record {
    all = v ∷ c.all;
    is = rw (first_part size turns s h g, e, c.is);
    count = ap suc c.count;
    its = go;
  }
    where
      go : (i : ℕ) → i < suc n → value_at i (v ∷ c.all) ≡ each_of k size s i
      go zero q = rw (zero-mul size) (sym e)
      go (suc i) q =
          let d : drop (i * size) (drop size s) ≡ drop (suc i * size) s = drop-drop (i * size) size s ∙ ap (λ (j : ℕ). drop j s) (add_comm size (i * size) ∙ sym (suc-mul i size)) in
          c.its i (omega arith) ∙ ap (λ (p : List ℕ). decoded k (take size p)) d

  nothing : (turns : ℕ) → Collected (all_of k size turns []) 0 (each_of k size [])
  unfolding collect
  nothing turns = record { all = []; is = rw (none_left size turns); count = refl; its = λ i q. absurd (omega arith) }

  -- `last` is the place of the last part
  pub collected : (last turns : ℕ) (s : List ℕ) → 0 < size → last * size < length s → length s ≤ last * size + size → length s ≤ turns → least k ≤ length s - last * size
      → Collected (all_of k size turns s) (suc last) (each_of k size s)
  collected last zero s z h g w e = absurd (omega arith)
  collected zero (suc turns) s z h g w e =
      let q : zero * size ≡ 0 = zero-mul size in
      let f : length s ≤ size = omega arith in
      let d : drop size s ≡ [] = drop_of_length-le s f in
      let v : (v : Value) × (decoded k (take size s) ≡ Some v) = rw (take_all size s (omega arith)) (long_enough k s (omega arith) (omega arith)) in
      with_first v.0 turns 0 s (omega arith) w v.1 (rw d (nothing turns))
  collected (suc last) (suc turns) s z h g w e =
      let q : suc last * size ≡ last * size + size = suc-mul last size in
      let n : length (take size s) ≡ size = length-take-le size s (omega arith) in
      let m : length (drop size s) ≡ length s - size = length-drop size s in
      let v : (v : Value) × (decoded k (take size s) ≡ Some v) = long_enough k (take size s) (omega arith) (omega arith) in
      with_first v.0 turns (suc last) s (omega arith) w v.1 (collected last turns (drop size s) z (omega arith) (omega arith) (omega arith) (omega arith))

  -- where the last part is too short, there are no values
  no_first : (turns : ℕ) (s : List ℕ) → 0 < length s → length s ≤ suc turns → decoded k (take size s) ≡ None → all_of k size (suc turns) s ≡ None
  unfolding collect
  no_first turns s h g e = rw (first_part size turns s h g, e)

  none_behind : (turns : ℕ) (s : List ℕ) → 0 < length s → length s ≤ suc turns → all_of k size turns (drop size s) ≡ None → all_of k size (suc turns) s ≡ None
  unfolding collect
  none_behind turns s h g e = rw (first_part size turns s h g) (go (decoded k (take size s)))
    where
      go : (o : Option Value) → collect (o ∷ map (decoded k) (parts_in turns size (drop size s))) ≡ None
      go None = refl
      go (Some v) = ap (onto v) e

  pub cut_last : (last turns : ℕ) (s : List ℕ) → 0 < size → last * size < length s → length s ≤ last * size + size → length s ≤ turns → length s - last * size < least k → all_of k size turns s ≡ None
  cut_last last zero s z h g w e = absurd (omega arith)
  cut_last zero (suc turns) s z h g w e =
      let q : zero * size ≡ 0 = zero-mul size in
      no_first turns s (omega arith) w (rw (take_all size s (omega arith)) (too_short k s (omega arith)))
  cut_last (suc last) (suc turns) s z h g w e =
      let q : suc last * size ≡ last * size + size = suc-mul last size in
      let m : length (drop size s) ≡ length s - size = length-drop size s in
      none_behind turns s (omega arith) w (cut_last last turns (drop size s) z (omega arith) (omega arith) (omega arith) (omega arith))
