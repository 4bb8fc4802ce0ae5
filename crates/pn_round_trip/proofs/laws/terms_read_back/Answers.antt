use Rattle.pn_round_trip.proofs.TermLemmas.{term_same_again, term_shaped_again}
use Rattle.pn_round_trip.proofs.laws.terms_read_back.Goals as goal

pub returns-clause-shaped : goal.returns-clause-shaped
returns-clause-shaped c = term_shaped_again

pub returns-clause-same : goal.returns-clause-same
returns-clause-same c = term_same_again
