-- No refusal is none.
use Rattle.std.specs.Prelude.{Result, Ok, Err}
use Prim.Native.Nat.{ℕ}
use mathlib.Core.Path.{◌≡◌}
use native.Mathlib.Omega.{arith}
use Rattle.base.specs.declared.refusal.Refusal.{Refusal}

pub no_number : {A : Type 0} {e : Refusal} → ◌≡◌ {A = Result (Unit {0}) Refusal} (Ok tt) (Err e) → A
no_number e = absurd (let z : ◌≡◌ {A = ℕ} 0 1 = cc in omega arith)
