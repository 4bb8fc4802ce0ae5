use Rattle.pn_round_trip.proofs.NetLaws.{net_spellable, only_spellable, spellable_alike, spellable_same, spellable_shaped}
use Rattle.pn_round_trip.proofs.laws.spellable_nets_read_back.Goals as goal

pub returns-clause-spellable : goal.returns-clause-spellable
returns-clause-spellable c = net_spellable

pub returns-clause-shaped : goal.returns-clause-shaped
returns-clause-shaped c = spellable_shaped

pub returns-clause-same : goal.returns-clause-same
returns-clause-same c = spellable_same

pub returns-clause-only : goal.returns-clause-only
returns-clause-only c = only_spellable

pub returns-clause-alike : goal.returns-clause-alike
returns-clause-alike c = spellable_alike
