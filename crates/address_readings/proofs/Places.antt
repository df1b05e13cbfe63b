-- Laws of the places in a timer's or counter's tag, counted from its end.
use Prim.Native.Nat.{ℕ, zero, suc, ◌-◌, ◌≤◌, ◌<◌}
use mathlib.Core.Path.{◌≡◌, subst}
use mathlib.Core.List.{List}
use native.Mathlib.Nat.{not-suc-le-zero}
use native.Mathlib.Omega.{arith}
use borrow.Author.Tests.{le-leb, lt-leb}
use lib.ListN.{get_or}
use Rattle.address_readings.specs.Places.{far_start}

-- ---- bytes above 127 before a place
pub far_step : (l : List ℕ) (e : ℕ) → 0 < e → 128 ≤ get_or l (e - 1) 0 → far_start l e ≡ far_start l (e - 1)
unfolding far_start
far_step l zero h f = absurd (not-suc-le-zero h)
far_step l (suc e) h f = let k : suc e - 1 ≡ e = omega arith in rw (k, le-leb 128 (get_or l e 0) (subst (λ (i : ℕ). 128 ≤ get_or l i 0) k f))

pub far_stop : (l : List ℕ) (e : ℕ) → 0 < e → get_or l (e - 1) 0 < 128 → far_start l e ≡ e
unfolding far_start
far_stop l zero h f = absurd (not-suc-le-zero h)
far_stop l (suc e) h f = let k : suc e - 1 ≡ e = omega arith in rw (lt-leb 128 (get_or l e 0) (subst (λ (i : ℕ). get_or l i 0 < 128) k f))
