use Rattle.pn_operators.proofs.Naming.{one_to_one}
use Rattle.pn_operators.proofs.laws.names_are_one_to_one.Goals as goal

pub returns : goal.returns
returns c = one_to_one
