use Rattle.link_values.proofs.ValueRecords.{no_type_lem, by_type}
use Rattle.link_values.proofs.parse_read_data.Goals as goal

pub returns-in-Some : goal.returns-in-Some
returns-in-Some c = by_type _ _ _ _ _ _ c.from_code.ensures c.in-Some.t c.in-Some.is c.parse_typed.ensures c.reply_record.ensures

pub returns-in-None : goal.returns-in-None
returns-in-None c = no_type_lem _ _ _ _ _ _ c.from_code.ensures c.in-None.is c.reply_record-in-None.ensures
