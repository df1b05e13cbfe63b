use Rattle.std.proofs.Common.{◌≡◌, ℕ, List, [], ◌++◌, ap, sym, ◌∙◌, rules, append_assoc, arith}
use Rattle.std.specs.Slice.Iter.{chunks_rest}
use Rattle.console.proofs.output.Saying.{hex_start, hex_turn, hex_done}
use Rattle.console.proofs.output.Output.hex.Goals as goal

pub hex_piece-requires : goal.hex_piece-requires
hex_piece-requires g c = let size = rw c.loop-piece.invariant.2 at c.in-Some.ensures.steps.1.1 in omega (arith, size)

pub loop-piece-init : goal.loop-piece-init
loop-piece-init g c = (search rules, tt, search rules, ([], hex_start _ _ c.plain.ensures.fits, search rules))

pub loop-piece-preserved : goal.loop-piece-preserved
loop-piece-preserved g c =
    let so_far = c.loop-piece.invariant.3 in
    let steps = c.in-Some.ensures.steps in (
      search rules,
      tt,
      steps.0 ∙ c.loop-piece.invariant.2,
      (
        so_far.0 ++ c.in-Some.piece.now,
        hex_turn so_far.0 so_far.1 _ (search rules) c.hex_piece.ensures,
        append_assoc so_far.0 _ _ ∙ ap (λ (l : List ℕ). so_far.0 ++ l) (sym steps.1.0) ∙ so_far.2,
      ),
    )

pub returns : goal.returns
returns g c =
    let so_far = c.loop-piece.invariant.3 in
    hex_done so_far.0 so_far.1 _ _ c.in-None.ensures.steps.1.0 so_far.2 (search rules) c.plain.ensures
