use Rattle.pn_mode_text.proofs.LeafLemmas.{dot_read}
use Rattle.pn_mode_text.proofs.read_leaves.dot.Goals as goal

pub returns-in-Ok : goal.returns-in-Ok
returns-in-Ok c = (dot_read c.args.marks.now c.args.bytes.now).found (tt, c.in-Ok.mark) c.in-Ok.rest.now c.in-Ok.ensures

pub returns-in-Err : goal.returns-in-Err
returns-in-Err c = (dot_read c.args.marks.now c.args.bytes.now).broken c.in-Err.left c.in-Err.ensures
