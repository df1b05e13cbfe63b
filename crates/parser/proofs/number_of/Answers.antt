use Rattle.std.proofs.Common.{rules, ◌≡◌, ◌∙◌, ◌+◌, ◌*◌, min}
use Rattle.std.specs.Prelude.{fold}
use Rattle.parser_spec.specs.DecimalNumbers.{digit_value, most}
use Rattle.parser.proofs.DecimalNumbers.{number_is}
use Rattle.parser.proofs.number_of.Goals as goal

pub returns : goal.returns
returns c =
    let h : c.fold.result ≡ fold (λ n b. min (n * 10 + digit_value b) most) 0 c.args.s.now = search rules in
    h ∙ number_is c.args.s.now
