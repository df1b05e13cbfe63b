-- The stores, return by return.
use Prim.Native.Nat.{ℕ, ◌+◌, ◌*◌, ◌/◌, ◌%◌, ◌<◌, ◌≤◌}
use mathlib.Core.Path.{◌≡◌, sym, ap}
use mathlib.Core.List.{List}
use native.Mathlib.Nat.{mul-le-mul}
use native.Mathlib.Numerals.{add-one}
use native.Mathlib.Omega.{arith}
use mir.Syntax.{w64}
use mir.Val.{Fits}
use borrow.Author.Tests.{lt-ltb, le-ltb}
use lib.ListN.{set}
use Rattle.processor_spec.specs.declared.FileRecord.{FileRecord}
use Rattle.processor_directory.specs.StoredRows.{row_at, marked_at, marked, stored_row}

product : {a b : ℕ} → a < 256 → b < 65536 → a * b ≤ 255 * 65535
product {a} {b} h k =
    let l : a ≤ 255 = omega arith in
    let m : b ≤ 65535 = omega arith in
    mul-le-mul l m

pub product_fits : {a b : ℕ} → a < 256 → b < 65536 → Fits w64 (a * b)
product_fits h k = record { fits = omega (arith, product h k) }

pub place_fits : {a b c : ℕ} → a < 256 → b < 256 → c < 65536 → Fits w64 (a + b * c)
place_fits e h k = record { fits = omega (arith, product h k) }

module _ (d : List ℕ) (at : ℕ) where
  pub mark_inside : at < 2793 → set d at 0x81 ≡ marked_at d at
  mark_inside h = simp (lt-ltb _ _ h)

  pub mark_outside : 2793 ≤ at → d ≡ marked_at d at
  mark_outside h = simp (le-ltb _ _ h)

pub marked_next : (first row : ℕ) (d : List ℕ) (k : ℕ) → marked_at (marked first row d k) (row_at first row k) ≡ marked first row d (k + 1)
unfolding marked
marked_next first row d k = sym (ap (marked first row d) (add-one k))

module _ (first row : ℕ) (d : List ℕ) (r : FileRecord) (at : ℕ) (e : at ≡ row_at first row r.number) where
  pub row_inside : at < 2791 → set (set (set d at r.code) (at + 1) (r.length % 256)) (at + 2) (r.length / 256 % 256) ≡ stored_row first row d r
  unfolding stored_row
  row_inside h = simp (← e, lt-ltb _ _ h)

  pub row_outside : 2791 ≤ at → d ≡ stored_row first row d r
  unfolding stored_row
  row_outside h = simp (← e, le-ltb _ _ h)
