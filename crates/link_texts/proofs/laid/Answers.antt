use Rattle.link_texts.proofs.LaidTexts.{laid}
use Rattle.link_texts.proofs.laid.Goals as goal

pub returns : goal.returns
returns c = laid _ _ c.if-out-bytes.false c.put_all.ensures c.written_record-2.ensures
