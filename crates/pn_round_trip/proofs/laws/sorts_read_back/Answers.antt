use Rattle.pn_round_trip.proofs.SortLemmas.{sort_same_again, sort_shaped_again}
use Rattle.pn_round_trip.proofs.laws.sorts_read_back.Goals as goal

pub returns-clause-shaped : goal.returns-clause-shaped
returns-clause-shaped c = sort_shaped_again

pub returns-clause-same : goal.returns-clause-same
returns-clause-same c = sort_same_again
