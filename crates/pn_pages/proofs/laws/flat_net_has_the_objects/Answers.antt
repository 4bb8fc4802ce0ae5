use Rattle.std.proofs.Common.{ap}
use Rattle.pn_pages.proofs.FlatLemmas.{flat_arcs_are, flat_places_are, flat_transitions_are}
use Rattle.pn_pages.proofs.laws.flat_net_has_the_objects.Goals as goal

pub returns-clause-kind : goal.returns-clause-kind
returns-clause-kind c n f is = ap (λ m. m.kind) is.is

pub returns-clause-places : goal.returns-clause-places
returns-clause-places c = flat_places_are

pub returns-clause-transitions : goal.returns-clause-transitions
returns-clause-transitions c = flat_transitions_are

pub returns-clause-arcs : goal.returns-clause-arcs
returns-clause-arcs c = flat_arcs_are
