use Rattle.pn_net.proofs.RowLemmas.{row_begun}
use Rattle.pn_net.specs.Typed.{condition_of}
use Rattle.pn_net.proofs.tables.begin_row.Goals as goal

pub returns : goal.returns
returns c t = row_begun c.args.decls.now (condition_of c.args.transition.now) t _ c.new.ensures.items (rw c.new-2.ensures.items at c.in_ok-add_variables.ensures)
