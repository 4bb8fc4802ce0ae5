use Rattle.std.proofs.Common.{Some, ap, ◌∙◌}
use Rattle.std.proofs.lemmas.Option.{slice_get_within, get_or_from_slice_get, slice_get-get_or}
use Rattle.pn_carriers.specs.Carriers.{carrier}
use Rattle.pn_carriers.proofs.CarrierLemmas.{agrees}
use Rattle.pn_carriers.proofs.laws.members_are_in_the_carrier.Goals as goal

pub returns : goal.returns
returns c =
    λ widths sort finite v. (
      λ h. let p = (agrees widths sort).placed finite v h in (p.0, slice_get_within (carrier widths sort) p.0 v p.1, get_or_from_slice_get (carrier widths sort) p.0 v v p.1),
      λ p. (agrees widths sort).member p.0 v (slice_get-get_or (carrier widths sort) p.0 v p.1 ∙ ap Some p.2),
    )
