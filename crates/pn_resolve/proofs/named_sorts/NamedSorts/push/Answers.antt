use Rattle.std.proofs.Common.{◌++◌, ◌∷◌, [], ap, ◌∙◌}
use Rattle.pn_resolve.specs.NamedSorts.{sorts_found}
use Rattle.pn_resolve.proofs.NamedSortsLemmas.{pushed_is}
use Rattle.pn_resolve.proofs.named_sorts.NamedSorts.push.Goals as goal

pub returns : goal.returns
returns c =
    ap (sorts_found c.keep.new.kept.items) c.in_ok-push.ensures.items
    ∙ pushed_is c.in_ok-place.ensures.ok c.self.inside.places.items c.self.invariant
    ∙ ap (λ ss. ss ++ c.args.sort ∷ []) c.self.view_is
