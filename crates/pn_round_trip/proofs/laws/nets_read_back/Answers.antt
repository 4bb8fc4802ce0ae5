use Rattle.pn_round_trip.proofs.NetLaws.{net_same_again, net_shaped_again}
use Rattle.pn_round_trip.proofs.laws.nets_read_back.Goals as goal

pub returns-clause-shaped : goal.returns-clause-shaped
returns-clause-shaped c = net_shaped_again

pub returns-clause-same : goal.returns-clause-same
returns-clause-same c = net_same_again
