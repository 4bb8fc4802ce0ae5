use Rattle.pn_round_trip.proofs.DeclarationLemmas.{declarations_same_again, declarations_shaped_again}
use Rattle.pn_round_trip.proofs.laws.declarations_read_back.Goals as goal

pub returns-clause-shaped : goal.returns-clause-shaped
returns-clause-shaped c = declarations_shaped_again

pub returns-clause-same : goal.returns-clause-same
returns-clause-same c = declarations_same_again
