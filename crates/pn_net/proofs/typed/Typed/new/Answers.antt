use Rattle.pn_net.proofs.DocumentLemmas.{are_sound, is_faultless}
use Rattle.pn_net.proofs.typed.Typed.new.Goals as goal

pub make_tables-requires-clause-faultless : goal.make_tables-requires-clause-faultless
make_tables-requires-clause-faultless c = is_faultless c.args.flat c.requires.typed.document

pub make_tables-requires-clause-sound : goal.make_tables-requires-clause-sound
make_tables-requires-clause-sound c = are_sound c.args.flat c.requires.typed.document

pub make_tables-requires-clause-rows : goal.make_tables-requires-clause-rows
make_tables-requires-clause-rows c = λ a has. (c.requires.typed.wired a has).transition

pub invariant_of-result : goal.invariant_of-result
invariant_of-result c = record { declared = c.requires.declared; typed = c.requires.typed; faultless = is_faultless c.args.flat c.requires.typed.document; tables = c.in_ok-tables.ensures }
