use Rattle.pn_operators.proofs.Naming.{found_so}
use Rattle.pn_operators.proofs.search.find_in.Goals as goal

pub returns : goal.returns
returns c = found_so c.args.name.now c.args.kind c.args.table.now c.requires c.first_found.result c.first_found.ensures
