use Rattle.std.specs.Prelude.{Result}
use Rattle.std.proofs.Common.{◌≡◌, sym, ap, ◌∙◌}
use Rattle.base.specs.declared.refusal.Refusal.{Refusal}
use Rattle.processor_build_spec.specs.declared.Sums.{Sums}
use Rattle.processor_build_spec.specs.Plans.{laid_by, finish_of}
use Rattle.processor_build_spec.proofs.Raising.{new_is, lays_these, lays_none}
use Rattle.processor_new.proofs.new.Goals.{in-Ok, in_default}
use Rattle.processor_new.proofs.new.Goals as goal

pub returns : goal.returns
returns c =
    let laid : (c.match-judged.table ≡ laid_by c.args.files.now c.judge-judged.result c.args.table.now) × (c.match-judged.judged ≡ c.judge-judged.result) =
    elim c.match-judged.branch [
      | in-Ok w ↦ (lays_these _ _ _ _ _ w.in-Ok.is (w.table-is ∙ w.lay.ensures), w.judged-is ∙ sym w.in-Ok.is)
      | in_default w ↦ (lays_none _ _ _ _ _ w.in_default.is w.table-is, w.judged-is)
    ] in
    new_is _ _ _ _ _ _ c.judge-judged.result _ _ _ c.judge-judged.ensures laid.0
    (c.finish.ensures ∙ ap (λ (j : Result Sums Refusal). finish_of j c.args.text.now c.args.count c.args.memory.now) laid.1)
