use Rattle.link_element_access.proofs.AccessByCode.{set_known, set_unknown}
use Rattle.link_element_access.proofs.set_element.Goals as goal

pub returns-in-Some : goal.returns-in-Some
returns-in-Some c = set_known _ _ _ _ _ c.args.w c.from_code.ensures c.in-Some.is c.setting_of.ensures c.set_element.ensures c.stored_number.ensures

pub returns-in-None : goal.returns-in-None
returns-in-None c = set_unknown _ _ _ _ _ c.args.w c.from_code.ensures c.in-None.is c.no_type.ensures c.stored_number-in-None.ensures
