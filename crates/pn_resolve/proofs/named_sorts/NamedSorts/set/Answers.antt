use Rattle.std.proofs.Common.{slice_set, ap, ◌∙◌}
use Rattle.pn_resolve.proofs.NamedSortsLemmas.{set_is}
use Rattle.pn_resolve.proofs.named_sorts.NamedSorts.set.Goals as goal

pub returns : goal.returns
returns c =
    set_is c.in_ok-found.ensures.ok c.self.inside.places.items c.self.invariant c.args.place
    ∙ ap (λ ss. slice_set ss c.args.place c.args.sort) c.self.view_is
