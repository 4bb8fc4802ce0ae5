use Rattle.pn_mode_text.proofs.LeafLemmas.{truth_read, truths_apart}
use Rattle.pn_mode_text.proofs.read_leaves.truth.Goals as goal

pub one_of-requires-clause-apart : goal.one_of-requires-clause-apart
one_of-requires-clause-apart c = truths_apart c.args.marks.now c.requires.stops

pub returns-in-Ok : goal.returns-in-Ok
returns-in-Ok c = (truth_read c.args.marks.now c.args.bytes.now).found (c.in-Ok.place, c.in-Ok.mark) c.in-Ok.rest.now c.in-Ok.ensures

pub returns-in-Err : goal.returns-in-Err
returns-in-Err c = (truth_read c.args.marks.now c.args.bytes.now).broken c.in-Err.left c.in-Err.ensures
