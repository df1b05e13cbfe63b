-- A typed message tells its size and its fields: of two with one requester, sequence number and function that are equal, with anything behind them, these are the same.
use Prim.Native.Nat.{ℕ, ◌%◌, ◌/◌, ◌≤◌, ◌<◌}
use mathlib.Core.Path.{◌≡◌, refl}
use mathlib.Core.Bool.{Bool, true, false, cond}
use mathlib.Core.List.{List, [], ◌∷◌, ◌++◌, append_assoc, append_cancel_left}
use native.Mathlib.Omega.{arith}
use borrow.Author.Tests.{ltb-true}
use lib.Dec.{ltb}
use Rattle.base.specs.Numbers.{low_first}
use Rattle.request_frame.specs.RequestFrame.{command_head, address_field, two_addresses, three_addresses, typed}
use Rattle.request_frame.specs.declared.Target.{Target}
use Rattle.request_frame.specs.declared.Requestor.{Requestor}

-- an address field ends by itself, for its one byte isn't FF, whatever the limit up to 255 (`address_field` gives its own)
module _ (n m : ℕ) (r s : List ℕ) (hn : n < 65536) (hm : m < 65536) where
  below : (k : ℕ) → k ≤ 255
      → cond (ltb n k) (low_first 1 n) ((0xFF ∷ []) ++ low_first 2 n) ++ r ≡ cond (ltb m k) (low_first 1 m) ((0xFF ∷ []) ++ low_first 2 m) ++ s
      → (n ≡ m) × (r ≡ s)
  unfolding low_first
  below k l = go (ltb n k) (ltb m k) refl refl
    where
      go : (a b : Bool) → ltb n k ≡ a → ltb m k ≡ b
          → cond a (low_first 1 n) ((0xFF ∷ []) ++ low_first 2 n) ++ r ≡ cond b (low_first 1 m) ((0xFF ∷ []) ++ low_first 2 m) ++ s
          → (n ≡ m) × (r ≡ s)
      go true true t u e =
          let i : n < k = ltb-true n k t in
          let j : m < k = ltb-true m k u in
          let x : n % 256 ≡ m % 256 = cc in
          let z : r ≡ s = cc in
          (omega arith, z)
      go true false t u e =
          let i : n < k = ltb-true n k t in
          let x : n % 256 ≡ 255 = cc in
          absurd (omega arith)
      go false true t u e =
          let j : m < k = ltb-true m k u in
          let x : 255 ≡ m % 256 = cc in
          absurd (omega arith)
      go false false t u e =
          let x : n % 256 ≡ m % 256 = cc in
          let y : n / 256 % 256 ≡ m / 256 % 256 = cc in
          let z : r ≡ s = cc in
          (omega arith, z)

  pub field_told : address_field n ++ r ≡ address_field m ++ s → (n ≡ m) × (r ≡ s)
  unfolding address_field
  field_told e = below _ (omega arith) e

-- ---- a whole message
abbrev pub Words : Target → Type 0
Words p = (p.file < 65536) × (p.element < 65536) × (p.sub < 65536)

-- the message from its element on, and from its file on
abbrev from_element : Target → List ℕ → List ℕ
from_element p r = address_field p.element ++ (address_field p.sub ++ r)

abbrev from_file : Target → List ℕ → List ℕ
from_file p r = address_field p.file ++ (p.code ∷ from_element p r)

pub typed_told : (q : Requestor) (sequence function size size' : ℕ) (p p' : Target) (r s : List ℕ) → Words p → Words p'
    → typed q sequence function size p ++ r ≡ typed q sequence function size' p' ++ s
    → (size ≡ size') × (p.file ≡ p'.file) × (p.code ≡ p'.code) × (p.element ≡ p'.element) × (p.sub ≡ p'.sub)
unfolding typed three_addresses two_addresses
typed_told q sequence function size size' p p' r s v w e =
    let k : function ∷ size ∷ from_file p r ≡ function ∷ size' ∷ from_file p' s = append_cancel_left (command_head q 0x0F sequence) _ _ (simp append_assoc at e) in
    let f : from_file p r ≡ from_file p' s = cc in
    let file = field_told p.file p'.file _ _ v.0 w.0 f in
    let g : from_element p r ≡ from_element p' s = cc in
    let element = field_told p.element p'.element _ _ v.1 w.1 g in
    let sub = field_told p.sub p'.sub r s v.2 w.2 element.1 in
    (cc, file.0, cc, element.0, sub.0)
