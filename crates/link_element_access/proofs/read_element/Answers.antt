use Rattle.link_element_access.proofs.AccessByCode.{read_known, read_unknown}
use Rattle.link_element_access.proofs.read_element.Goals as goal

pub returns-in-Some : goal.returns-in-Some
returns-in-Some c = read_known _ _ _ _ _ c.args.w c.from_code.ensures c.in-Some.is c.spot_of.ensures c.read_element.ensures c.numbers_of.ensures

pub returns-in-None : goal.returns-in-None
returns-in-None c = read_unknown _ _ _ _ _ c.args.w c.from_code.ensures c.in-None.is c.no_type.ensures c.numbers_of-in-None.ensures
