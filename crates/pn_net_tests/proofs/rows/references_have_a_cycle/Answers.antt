use Rattle.std.proofs.Common.{codes, inl, refl}
use Rattle.pn_net.specs.Links.{reference_cycle}
use Rattle.pn_net_tests.specs.Nets.{reference as a_reference}
use Rattle.pn_net_tests.proofs.NamedLemmas.{lead_on, reference_stands}
use Rattle.pn_net_tests.proofs.rows.references_have_a_cycle.Goals as goal

pub returns : goal.returns
returns c = reference_cycle _ (record { reference = a_reference (codes "r") (codes "s") 139; stands = inl reference_stands; is_endless = λ steps. (lead_on steps).1; is = refl })
