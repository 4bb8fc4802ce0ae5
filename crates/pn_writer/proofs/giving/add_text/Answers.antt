use Rattle.pn_writer.proofs.GivingLemmas.{entry, text_is_text}
use Rattle.pn_writer.proofs.giving.add_text.Goals as goal

pub begin-requires-clause-depth : goal.begin-requires-clause-depth
begin-requires-clause-depth c = (entry _ _ _ _ _ c.requires).room.room

pub text-requires-clause-text : goal.text-requires-clause-text
text-requires-clause-text c = text_is_text c.args.text.now _ _ c.requires
