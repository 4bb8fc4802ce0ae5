use Rattle.pn_round_trip.proofs.WritableNets.{writable}
use Rattle.pn_round_trip.proofs.laws.nets_are_writable.Goals as goal

pub returns : goal.returns
returns c = record { writable = writable }
