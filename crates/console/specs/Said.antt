-- Text on its way to standard output. It waits at the start of a buffer, and no contract can say what was written of it; but it can say
-- what still waits: the end of all that was said, and all of it as long as there is room.
use Rattle.std.specs.Prelude.{ℕ, ◌+◌, ◌-◌, ◌≤◌, ◌≡◌, List, ◌++◌, false, length, take, drop}
use Rattle.base.specs.Put.{Wrote}
use Rattle.console.specs.declared.output.Pending.{Pending}

-- `bs` was said behind what waited in `out` up to the place `p`; now `out'` has what waits, up to the place `r`
pub record Said (out : List ℕ) (p : Pending) (bs : List ℕ) (r : Pending) (out' : List ℕ) : Type 0 where
  pub fits : r.at ≤ length out'
  pub counts : r.at ≡ length (take r.at out')
  pub room : p.at + length bs ≤ length out → Wrote out p.at bs r.at out'
  pub most : p.at ≤ length out → r.at ≤ p.at + length bs
  pub waits : p.at ≤ length out → take r.at out' ≡ drop (p.at + length bs - r.at) (take p.at out ++ bs)
  pub shut : p.good ≡ false → r.good ≡ false
