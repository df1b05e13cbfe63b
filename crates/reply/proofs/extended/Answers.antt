use Rattle.reply.proofs.Status.{f0_nothing, f0_room, f0_written}
use Rattle.reply.proofs.extended.Goals as goal

pub returns-in_default : goal.returns-in_default
returns-in_default c = absurd (f0_nothing c.args.extension.now _ _ _ c.pccc_error_text.ensures (cc))

pub lay_hex-requires : goal.lay_hex-requires
lay_hex-requires c = f0_room c.args.extension.now _ _ _ c.pccc_error_text.ensures (cc) c.in-len1-up.len_at_least

pub returns-in-len1-up : goal.returns-in-len1-up
returns-in-len1-up c = f0_written _ _ _ _ c.pccc_error_text.ensures (cc) c.in-len1-up.len_at_least c.lay_hex.ensures
