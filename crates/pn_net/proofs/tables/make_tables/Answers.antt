use Rattle.pn_net.proofs.tables.make_tables.Goals as goal

pub transition_rows-requires-clause-within : goal.transition_rows-requires-clause-within
transition_rows-requires-clause-within c = rw (c.as_slice-3.ensures, c.as_slice-2.ensures) c.requires.rows
