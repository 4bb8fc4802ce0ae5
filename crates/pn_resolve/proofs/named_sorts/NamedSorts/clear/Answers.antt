use Rattle.std.proofs.Common.{None, slice_set, ap, ◌∙◌}
use Rattle.std.proofs.lemmas.List.{map-set}
use Rattle.pn_resolve.specs.NamedSorts.{sort_found}
use Rattle.pn_resolve.proofs.named_sorts.NamedSorts.clear.Goals as goal

pub returns : goal.returns
returns c = map-set (sort_found c.self.inside.kept.items) c.self.inside.places.items c.args.place None ∙ ap (λ ss. slice_set ss c.args.place None) c.self.view_is
