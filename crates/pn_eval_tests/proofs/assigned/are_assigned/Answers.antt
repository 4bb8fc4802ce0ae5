use Rattle.pn_eval_tests.proofs.AssignmentLemmas.{three}
use Rattle.pn_eval_tests.proofs.assigned.are_assigned.Goals as goal

pub returns : goal.returns
returns c is = three c.args.decls.now c.args.x.now c.args.y.now c.args.n.now (c.is_of.ensures c.if-not-is_of.false) (c.is_of-2.ensures c.if-not-is_of-2.false) (c.is_of-3.ensures is)
