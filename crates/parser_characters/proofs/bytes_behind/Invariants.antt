use Prim.Native.Nat.{◌+◌, ◌*◌, ◌^◌, ◌-◌, ◌≤◌}
use mathlib.Core.Path.{◌≡◌}
use lib.ListN.{length, drop}
use Rattle.std.specs.Prelude.{map}
use Rattle.parser_spec.specs.Characters.{◌to◌, point_in}
use Rattle.parser.specs.CursorAnswers.{placed}
use Rattle.parser_characters.proofs.bytes_behind.Given as goal

abbrev pub invariant-loop-r : goal.invariant-loop-r
invariant-loop-r l = (64 ^ (length l.trail - l.r-index) * (l.n + 5) ≤ 1073741824) × (placed l.c.i l.s (point_in l.first l.n (map (λ r. r.0 to r.1) (drop l.r-index l.trail)) (drop l.c.i l.s)) ≡ placed l.initial.c.i l.s (point_in l.first l.initial.n (map (λ r. r.0 to r.1) l.trail) (drop l.initial.c.i l.s)))
