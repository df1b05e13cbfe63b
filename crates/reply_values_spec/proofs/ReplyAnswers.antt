-- What the call says, one law for each answer.
use Rattle.std.specs.Prelude.{Option, None, Some, Result, Err}
use Prim.Native.Nat.{ℕ, zero, suc, ◌+◌, ◌-◌, ◌*◌, ◌/◌, ◌%◌, ◌≤◌, ◌<◌, min}
use mathlib.Core.Path.{◌≡◌, refl, ap, sym, subst, ◌∙◌}
use mathlib.Core.Bool.{Bool, true, false, ◌&&◌, cond, false≢true}
use mathlib.Core.List.{List, [], ◌∷◌, map}
use native.Mathlib.Nat.{mul-le-mul_right, suc-mul, div-mul-le_self, div-add-mod', mod-lt, lt-div-mul-add}
use native.Mathlib.Omega.{arith}
use borrow.Author.Tests.{leb-true, leb-false}
use lib.Dec.{leb, eqb}
use lib.ListN.{length, take, drop, length-take, length-drop}
use Rattle.base.proofs.EveryPlace.{both}
use Rattle.file_type.specs.declared.FileType.{FileType}
use Rattle.file_type.specs.declared.FileType.TheVariants.{O, I, S, B, T, C, R, N, F, ST, A, L, MG, PD, PLS}
use Rattle.file_type.specs.Table.{row}
use Rattle.base.specs.declared.refusal.Refusal.{Refusal}
use Rattle.base.specs.declared.refusal.Refusal.TheVariants.{UnreadableReply, NoSuchValue}
use Rattle.address_readings.specs.Readings.{timed}
use Rattle.reply_values_spec.specs.declared.DataType.{DataType}
use Rattle.reply_values_spec.specs.declared.DataType.TheVariants.{Int}
use Rattle.reply_values_spec.specs.declared.ReplyValue.{ReplyValue}
use Rattle.reply_values_spec.specs.Values.{Value, word, long, float, bit, text, data_type, value_of, decoded, least, parts, parts_in, collect, at_least_one, alone, bit_of, slice, word_place, bit_value, values_of, value_at, one_part, asked, reply_of, Reads}
use Rattle.reply_values_spec.proofs.InParts.{one_part_lem, is_decoded, has_value, past_last, Collected, each_of, all_of, collected, cut_last}

-- ---- refused, without a store
refused_27 : (o : Option (List Value)) (i : ℕ) (l : List ℕ) → o ≡ None → Reads (asked i (length l) o) l (Err UnreadableReply) l
refused_27 o i l e = rw e (record { answer = refl; memory = refl })

refused_28 : (o : Option (List Value)) (vs : List Value) (i : ℕ) (l : List ℕ) → o ≡ Some vs → length vs ≤ i → Reads (asked i (length l) o) l (Err NoSuchValue) l
refused_28 o vs i l e h = rw (e, past_last vs i h) (record { answer = refl; memory = refl })

-- ---- in parts
module _ (k : DataType) (size : ℕ) (s : List ℕ) (i : ℕ) (l : List ℕ) where
  pub parts_none : length s ≡ 0 → Reads (asked i (length l) (at_least_one (collect (map (decoded k) (parts size s))))) l (Err UnreadableReply) l
  unfolding parts_in collect
  parts_none e = let z : at_least_one (collect (map (decoded k) (parts size s))) ≡ None = rw e in refused_27 _ i l z

  module _ (not_None : length s ≡ 0 → ⊥) (least_size : 1 ≤ size) (most : size ≤ 84) where
    some_there : 0 < length s
    some_there = go (length s) not_None
      where
        go : (n : ℕ) → (n ≡ 0 → ⊥) → 0 < n
        go zero h = absurd (h refl)
        go (suc n) h = omega arith

    at_last : (length s - 1) / size * size ≤ length s - 1
    at_last = div-mul-le_self (length s - 1) size

    up_to_last : length s ≤ (length s - 1) / size * size + size
    up_to_last = omega (arith, lt-div-mul-add {a = length s - 1} {b = size} least_size)

    rest : length s - (length s - 1) / size * size ≡ (length s - 1) % size + 1
    rest = omega (arith, div-add-mod' (length s - 1) size, at_last, some_there)

    pub parts_cut : {n : ℕ} → n ≡ least k → (length s - 1) % size + 1 < n → Reads (asked i (length l) (at_least_one (collect (map (decoded k) (parts size s))))) l (Err UnreadableReply) l
    parts_cut e h = refused_27 _ i l (ap at_least_one (cut_last k size most ((length s - 1) / size) (length s) s least_size (omega (arith, at_last, some_there)) up_to_last (omega arith) (omega (arith, rest))))

    module _ {n : ℕ} (e : n ≡ least k) (h : n ≤ (length s - 1) % size + 1) where
      all_there : Collected (all_of k size (length s) s) (suc ((length s - 1) / size)) (each_of k size s)
      all_there = collected k size most ((length s - 1) / size) (length s) s least_size (omega (arith, at_last, some_there)) up_to_last (omega arith) (omega (arith, rest))

      whole : (vs : List Value) → 0 < length vs → at_least_one (Some vs) ≡ Some vs
      whole [] q = absurd (omega arith)
      whole (v ∷ vs) q = refl

      there : at_least_one (all_of k size (length s) s) ≡ Some all_there.all
      there = ap at_least_one all_there.is ∙ whole all_there.all (omega (arith, all_there.count))

      pub parts_past : (length s - 1) / size < i → Reads (asked i (length l) (at_least_one (collect (map (decoded k) (parts size s))))) l (Err NoSuchValue) l
      parts_past q = refused_28 _ all_there.all i l there (omega (arith, all_there.count))

      module _ (q : i ≤ (length s - 1) / size) where
        -- a part before the last one is whole
        part_length : length (take size (drop (i * size) s)) ≡ min size (length s - i * size)
        part_length = length-take size (drop (i * size) s) ∙ ap (min size) (length-drop (i * size) s)

        module _ {p : List ℕ} (d : p ≡ take size (drop (i * size) s)) where
          part_least : least k ≤ length p
          part_least = rw (d, part_length) (go (leb ((length s - 1) / size) i) refl)
            where
              go : (b : Bool) → leb ((length s - 1) / size) i ≡ b → least k ≤ min size (length s - i * size)
              go true t =
                  let j : i ≡ (length s - 1) / size = omega (arith, leb-true ((length s - 1) / size) i t) in
                  let z : length s - i * size ≡ (length s - 1) % size + 1 = rw j rest in
                  omega (arith, z, mod-lt (length s - 1) {m = size} least_size)
              go false t =
                  let j : suc i ≤ (length s - 1) / size = omega (arith, leb-false ((length s - 1) / size) i t) in
                  let z : suc i * size ≤ length s - 1 = omega (arith, at_last, mul-le-mul_right {m = suc i} {n = (length s - 1) / size} size j) in
                  omega (arith, z, suc-mul i size, mod-lt (length s - 1) {m = size} least_size)

        pub parts_read : {p : List ℕ} {r : Result (ReplyValue × ℕ) Refusal} {m : List ℕ} → p ≡ take size (drop (i * size) s) → Reads (one_part (length l) ((length s - 1) / size + 1) (value_of k p)) l r m
            → Reads (asked i (length l) (at_least_one (collect (map (decoded k) (parts size s))))) l r m
        parts_read {p} {r} {m} d w =
            let c : length all_there.all ≡ (length s - 1) / size + 1 = omega (arith, all_there.count) in
            let v : value_at i all_there.all ≡ value_of k p = all_there.its i (omega arith) ∙ ap (decoded k) (sym d) ∙ is_decoded k p (part_least d) in
            let g : least k ≤ length p = part_least d in
            let f : length p ≤ 84 = rw d (omega (arith, length-take size (drop (i * size) s))) in
            let u : (u : Value) × (value_of k p ≡ Some u) = has_value k p (omega arith) in
            let w' : Reads (one_part (length l) ((length s - 1) / size + 1) (Some u.0)) l r m = subst (λ (o : Option Value). Reads (one_part (length l) ((length s - 1) / size + 1) o) l r m) u.1 w in
            rw (there, c, v, u.1) w'

-- ---- by the address
-- a bit needs no output and changes none
bit_reads : (sub i room : ℕ) (o : Option Value) (l : List ℕ) → Reads (asked i room (alone (bit_of sub o))) l (reply_of (asked i 0 (alone (bit_of sub o)))) l
unfolding value_at
bit_reads sub i room None l = record { answer = refl; memory = refl }
bit_reads sub zero room (Some (word z)) l = record { answer = refl; memory = refl }
bit_reads sub (suc i) room (Some (word z)) l = record { answer = refl; memory = refl }
bit_reads sub zero room (Some (long z)) l = record { answer = refl; memory = refl }
bit_reads sub (suc i) room (Some (long z)) l = record { answer = refl; memory = refl }
bit_reads sub i room (Some (float b)) l = record { answer = refl; memory = refl }
bit_reads sub i room (Some (bit b)) l = record { answer = refl; memory = refl }
bit_reads sub i room (Some (text x)) l = record { answer = refl; memory = refl }

-- PRE and ACC are words
word_typed : (t : FileType) → timed t ≡ true → data_type t ≡ Int
word_typed O h = absurd (false≢true h)
word_typed I h = absurd (false≢true h)
word_typed S h = absurd (false≢true h)
word_typed B h = absurd (false≢true h)
word_typed T h = refl
word_typed C h = refl
word_typed R h = absurd (false≢true h)
word_typed N h = absurd (false≢true h)
word_typed F h = absurd (false≢true h)
word_typed ST h = absurd (false≢true h)
word_typed A h = absurd (false≢true h)
word_typed L h = absurd (false≢true h)
word_typed MG h = absurd (false≢true h)
word_typed PD h = absurd (false≢true h)
word_typed PLS h = absurd (false≢true h)

word_timed : (t : FileType) (sub : ℕ) → eqb (word_place t sub) 0 ≡ false → timed t ≡ true
word_timed t sub = go (timed t)
  where
    go : (b : Bool) → eqb (cond b (cond (eqb sub 1) 2 (cond (eqb sub 2) 4 0)) 0) 0 ≡ false → b ≡ true
    go true h = refl
    go false h = absurd (false≢true (sym h))

-- a word of at most one element's bytes is the value of the only part
none_alone : (size : ℕ) → at_least_one (collect (map (decoded Int) (parts size []))) ≡ alone (decoded Int [])
unfolding decoded collect parts_in
none_alone size = refl

word_alone : (size : ℕ) (w : List ℕ) → length w ≤ size → at_least_one (collect (map (decoded Int) (parts size w))) ≡ alone (decoded Int w)
unfolding collect
word_alone size [] h = none_alone size
word_alone size (b ∷ w) h = ap (λ (ps : List (List ℕ)). at_least_one (collect (map (decoded Int) ps))) (one_part_lem size (b ∷ w) (omega arith) h) ∙ go (decoded Int (b ∷ w))
  where
    go : (o : Option Value) → at_least_one (collect (o ∷ [])) ≡ alone o
    go None = refl
    go (Some v) = refl

module _ (t : FileType) (flag : Bool) (sub : ℕ) (s : List ℕ) (i : ℕ) (l : List ℕ) {b : Bool} (a : b ≡ (flag && eqb (word_place t sub) 0)) {k : DataType} {size : ℕ} (e : k ≡ data_type t)
    (z : size ≡ (row t).size) {r : Result (ReplyValue × ℕ) Refusal} where
  pub bit_read : {p : List ℕ} → b ≡ true → p ≡ take size (drop 0 s) → r ≡ reply_of (asked i 0 (alone (bit_of sub (decoded k p)))) → Reads (asked i (length l) (values_of t flag sub s)) l r l
  unfolding values_of bit_value
  bit_read {p} h d f =
      let q : (flag ≡ true) × (eqb (word_place t sub) 0 ≡ true) = both flag (eqb (word_place t sub) 0) (sym a ∙ h) in
      let y : alone (bit_of sub (decoded k p)) ≡ values_of t flag sub s = rw (q.0, q.1, e, d, z) in
      subst (λ (o : Option (List Value)). Reads (asked i (length l) o) l r l) y (rw f (bit_reads sub i (length l) (decoded k p) l))

  pub parts_asked : {w m : List ℕ} → b ≡ false → w ≡ cond flag (slice (word_place t sub) t s) s → Reads (asked i (length l) (at_least_one (collect (map (decoded k) (parts size w))))) l r m
      → Reads (asked i (length l) (values_of t flag sub s)) l r m
  unfolding values_of bit_value
  parts_asked {w} {m} h d f = subst (λ (o : Option (List Value)). Reads (asked i (length l) o) l r m) (go flag (sym a ∙ h) d) f
    where
      go : (flag : Bool) → (flag && eqb (word_place t sub) 0) ≡ false → w ≡ cond flag (slice (word_place t sub) t s) s → at_least_one (collect (map (decoded k) (parts size w))) ≡ values_of t flag sub s
      go false q d = rw (d, e, z)
      go true q d =
          let j : data_type t ≡ Int = word_typed t (word_timed t sub q) in
          let n : length (slice (word_place t sub) t s) ≤ (row t).size = omega (arith, length-take (row t).size (drop (word_place t sub) s)) in
          rw (q, d, e, z, j) (word_alone (row t).size (slice (word_place t sub) t s) n)
