use Rattle.pn_operators.proofs.Placing.{row_at, row_tells}
use Rattle.pn_operators.proofs.search.row_in.Goals as goal

pub returns-clause-operator : goal.returns-clause-operator
returns-clause-operator c = row_at c.args.table.now c.requires c.args.op _

pub returns-clause-tells : goal.returns-clause-tells
returns-clause-tells c = row_tells c.args.table.now c.requires c.args.op _
