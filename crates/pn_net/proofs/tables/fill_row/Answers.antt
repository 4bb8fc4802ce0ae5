use Rattle.pn_net.proofs.RowLemmas.{on_ok_then, row_more}
use Rattle.pn_net.proofs.tables.fill_row.Goals as goal

pub returns : goal.returns
returns c condition before long old = on_ok_then c.add_variables.result _ _ (λ same. row_more c.args.decls.now condition before c.args.arc.now c.args.number c.args.row.now _ long old c.in_ok-push.ensures.items same) c.add_variables.ensures
