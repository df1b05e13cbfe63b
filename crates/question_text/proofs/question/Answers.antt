use Rattle.std.specs.Prelude.{Some}
use mathlib.Core.Path.{◌≡◌, ap, ◌∙◌}
use Rattle.question_text.specs.Questions.{question_of}
use Rattle.question_text.proofs.QuestionTexts.{question_told}
use Rattle.question_text.proofs.question.Goals as goal

pub returns-in-Some : goal.returns-in-Some
returns-in-Some c =
    let e : Some c.in-Some.text.now ≡ question_of c.args.number = rw c.in-Some.is at c.question_of.ensures in
    question_told c.args.number _ (ap Some c.as_bytes.ensures.value ∙ e) c.say.ensures
