use Rattle.std.proofs.Common.{codes, refl}
use Rattle.pn_net.specs.Links.{places, wrong_end}
use Rattle.pn_net.specs.Links.IsWrongEnd.{arc as wrong_arc}
use Rattle.pn_net_tests.specs.Nets.{arc}
use Rattle.pn_net_tests.proofs.NamedLemmas.{arc_stands, source_is_place, target_is_place}
use Rattle.pn_net_tests.proofs.rows.arc_has_a_wrong_end.Goals as goal

pub returns : goal.returns
returns c = wrong_end _ (wrong_arc _ (arc (codes "u") (codes "a") (codes "r") 201) places arc_stands source_is_place target_is_place refl)
