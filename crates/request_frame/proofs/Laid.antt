-- The parts of a request, one after the other.
use Prim.Native.Nat.{ℕ, ◌+◌, ◌-◌, ◌≤◌, ◌<◌}
use mathlib.Core.Path.{◌≡◌, refl, ap, ap₂, sym, ◌∙◌, subst}
use Rattle.std.specs.Int.{w16, to_le_bytes}
use mathlib.Core.Bool.{Bool, true, false}
use mathlib.Core.List.{List, [], ◌∷◌, ◌++◌}
use native.Mathlib.Nat.{zero-add}
use native.Mathlib.Omega.{arith}
use borrow.Author.Tests.{lt-ltb, le-ltb, ltb-true, ltb-false}
use lib.Dec.{ltb}
use lib.ListN.{length, get_or, length-append}
use Rattle.base.specs.Numbers.{low_first}
use Rattle.base.specs.Put.{Puts}
use Rattle.base.proofs.Numbers.{low_length}
use Rattle.base.proofs.Parts.{two_of, four_of}
use Rattle.base.proofs.Put.{Lays, lays, then, puts_room, puts_full}
use Rattle.request_frame.specs.RequestFrame.{identity, command_head, address_field, two_addresses, three_addresses, typed, typed_length}
use Rattle.request_frame.specs.declared.Target.{Target}
use Rattle.request_frame.specs.declared.Requestor.{Requestor}

-- ---- an address in one byte, and in three
module _ (n : ℕ) where
  short : n < 255 → address_field n ≡ low_first 1 n
  unfolding address_field
  short h = rw (lt-ltb _ _ h)

  long : 255 ≤ n → address_field n ≡ (0xFF ∷ []) ++ low_first 2 n
  unfolding address_field
  long h = rw (le-ltb _ _ h)

  pub short_length : n < 255 → 1 ≡ length (address_field n)
  short_length h = sym (ap length (short h) ∙ low_length 1 n)

  long_length : 255 ≤ n → 3 ≡ length (address_field n)
  long_length h = sym (ap length (long h) ∙ simp low_length)

  pub short_len : n < 255 → (◌≡◌ {A = ℕ} 1 (length (address_field n))) × (1 ≤ 3)
  short_len h = (short_length h, omega arith)

  pub long_len : 255 ≤ n → (◌≡◌ {A = ℕ} 3 (length (address_field n))) × (3 ≤ 3)
  long_len h = (long_length h, omega arith)

  pub field_most : length (address_field n) ≤ 3
  field_most = go (ltb n 255) refl
    where
      go : (b : Bool) → ltb n 255 ≡ b → length (address_field n) ≤ 3
      go true e = let k : 1 ≡ length (address_field n) = short_length (ltb-true n 255 e) in omega arith
      go false e = let k : 3 ≡ length (address_field n) = long_length (ltb-false n 255 e) in omega arith

module _ {l m : List ℕ} {at r : ℕ} (n : ℕ) where
  pub field_short : {k : ℕ} → k ≡ n → n < 255 → Puts l at (low_first 1 k) r m → Puts l at (address_field n) r m
  field_short e h w = rw (short n h, ← e) w

  pub field_long : {d : List ℕ} → d ≡ to_le_bytes w16 n → 255 ≤ n → Puts l at (0xFF ∷ get_or d 0 0 ∷ get_or d 1 0 ∷ []) r m → Puts l at (address_field n) r m
  unfolding low_first
  field_long e h w = rw (long n h) (rw e at w)

-- ---- the frame
pub command_laid : {l m d : List ℕ} {r : ℕ} (q : Requestor) (cmd n : ℕ) → length q.vid ≡ 2 → length q.vsn ≡ 4 → d ≡ to_le_bytes w16 n
    → Puts l 0 (0x4B ∷ 0x02 ∷ 0x20 ∷ 0x67 ∷ 0x24 ∷ 0x01 ∷ 0x07 ∷ get_or q.vid 0 0 ∷ get_or q.vid 1 0 ∷ get_or q.vsn 0 0 ∷ get_or q.vsn 1 0 ∷ get_or q.vsn 2 0 ∷ get_or q.vsn 3 0 ∷ cmd ∷ 0x00 ∷ get_or d 0 0 ∷ get_or d 1 0 ∷ []) r m
    → Puts l 0 (command_head q cmd n) r m
unfolding command_head identity low_first
command_laid {l} {m} {d} {r} q cmd n v w e p =
    subst (λ (x : List ℕ). Puts l 0 x r m)
    (ap₂ (λ (x y : List ℕ). (0x4B ∷ 0x02 ∷ 0x20 ∷ 0x67 ∷ 0x24 ∷ 0x01 ∷ 0x07 ∷ []) ++ (x ++ y) ++ (cmd ∷ 0x00 ∷ low_first 2 n)) (sym (two_of q.vid v)) (sym (four_of q.vsn w)))
    (rw e at p)

-- ---- lengths
pub command_length : (q : Requestor) (cmd n : ℕ) → length q.vid ≡ 2 → length q.vsn ≡ 4 → length (command_head q cmd n) ≡ 17
unfolding command_head identity
command_length q cmd n v w = simp (length-append, v, w, low_length)

pub two_length : (fnc size : ℕ) (p : Target) → length (two_addresses fnc size p) ≡ 3 + length (address_field p.file) + length (address_field p.element)
unfolding two_addresses
two_length fnc size p = simp length-append (omega arith)

module _ (fnc size : ℕ) (p : Target) (f e : ℕ) (ef : (f ≡ length (address_field p.file)) × (f ≤ 3)) (ee : (e ≡ length (address_field p.element)) × (e ≤ 3)) where
  two_count : length (two_addresses fnc size p) ≡ 3 + f + e
  two_count = two_length fnc size p ∙ rw (ef.0, ee.0)

  module _ {l : List ℕ} {at : ℕ} where
    pub two_short : length l < at + (3 + f + e) → Puts l at (two_addresses fnc size p) at l
    two_short h = puts_full (3 + f + e) two_count h

    pub two_laid : {m k j i : List ℕ} {r s t u : ℕ} → at ≤ length l → 3 + f + e ≤ length l - at
        → Puts l at (fnc ∷ size ∷ []) r m → Puts m r (address_field p.file) s k → Puts k s (p.code ∷ []) t j → Puts j t (address_field p.element) u i
        → Puts l at (two_addresses fnc size p) u i
    unfolding two_addresses
    two_laid {m} {k} {j} {i} {r} {s} {t} {u} h g a b c d =
        let w : Lays l at (two_addresses fnc size p) u i = then (lays a) (then (lays b) (then (lays c) (lays d))) in
        puts_room (3 + f + e) two_count (omega arith) (w.room (rw two_count (omega arith)))

module _ (q : Requestor) (n fnc size : ℕ) (p : Target) (v : length q.vid ≡ 2) (w : length q.vsn ≡ 4) where
  pub typed_length_lem : length (typed q n fnc size p) ≡ typed_length p
  unfolding typed three_addresses
  typed_length_lem = simp (length-append, command_length q 0x0F n v w, two_length) (omega arith)

  module _ (k : ℕ) (e : k ≡ typed_length p) where
    pub typed_full : {l : List ℕ} → length l < k → Puts l 0 (typed q n fnc size p) 0 l
    typed_full {l} h = puts_full {l = l} {at = 0} k (typed_length_lem ∙ sym e) (rw (zero-add k) h)

    pub typed_laid : {l m i j : List ℕ} {r s t : ℕ} → k ≤ length l
        → Puts l 0 (command_head q 0x0F n) r m → Puts m r (two_addresses fnc size p) s i → Puts i s (address_field p.sub) t j
        → Puts l 0 (typed q n fnc size p) t j
    unfolding typed three_addresses
    typed_laid {l} {m} {i} {j} {r} {s} {t} h a b c =
        let w : Lays l 0 (typed q n fnc size p) t j = then (lays a) (then (lays b) (lays c)) in
        let g : 0 + k ≤ length l = rw (zero-add k) h in
        puts_room {l = l} {at = 0} k (typed_length_lem ∙ sym e) g (w.room (rw (typed_length_lem, ← e) g))
