use Rattle.directory_sys0.proofs.Families.{here, behind, behind_both, other}
use borrow.Author.Rules.{rules}
use Rattle.directory_sys0.proofs.family_info.Goals as goal

pub returns-then-spells : goal.returns-then-spells
returns-then-spells c = search (here "1761", rules)

pub returns-then-spells-2 : goal.returns-then-spells-2
returns-then-spells-2 c = search (behind "1761", here "1762", rules)

pub returns-then-spells-3 : goal.returns-then-spells-3
returns-then-spells-3 c = search (behind "1761", behind "1762", here "1763", rules)

pub returns-then-spells-4 : goal.returns-then-spells-4
returns-then-spells-4 c = search (behind "1761", behind "1762", behind "1763", here "1764", rules)

pub returns-then-spells-5 : goal.returns-then-spells-5
returns-then-spells-5 c = search (behind "1761", behind "1762", behind "1763", behind "1764", here "1766", rules)

pub returns : goal.returns
returns c = search (behind_both "1761" "1762", behind_both "1763" "1764", behind "1766", other, rules)
