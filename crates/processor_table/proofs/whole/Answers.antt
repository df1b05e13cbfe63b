use Rattle.processor_table.proofs.SurveySteps.{whole_two, whole_six, whole_word, whole_long, whole_st, whole_low, whole_high}
use native.Mathlib.Omega.{arith}
use borrow.Author.Rules.{rules}
use Rattle.processor_table.proofs.whole.Goals as goal

pub returns-in-130-to-133 : goal.returns-in-130-to-133
returns-in-130-to-133 c = whole_two _ _ (omega arith) (omega arith)

pub returns-in-134-to-136 : goal.returns-in-134-to-136
returns-in-134-to-136 c = whole_six _ _ (omega arith) (omega arith)

pub returns-in-137 : goal.returns-in-137
returns-in-137 c = whole_word _ _ c.in-137.is

pub returns-in-138 : goal.returns-in-138
returns-in-138 c = whole_long _ _ c.in-138.is

pub returns-in-141 : goal.returns-in-141
returns-in-141 c = search (whole_st, rules)

pub returns-in_default : goal.returns-in_default
returns-in_default c = search (whole_low, rules)

pub returns-in_default-2 : goal.returns-in_default-2
returns-in_default-2 c = search (whole_high, rules)
