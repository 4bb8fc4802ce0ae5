use Rattle.std.proofs.Common.{◌≡◌, slice_index_or, slice_set, Option, None, List, ap, sym, ◌∙◌}
use Rattle.std.proofs.lemmas.List.{map-set}
use Rattle.pn_values.specs.declared.sort.Sort.{Sort}
use Rattle.pn_resolve.specs.NamedSorts.{sort_found, sorts_found}
use Rattle.pn_resolve.specs.Tables.{sort_in}
use Rattle.pn_resolve.proofs.NamedSortsLemmas.{sort_at_is}
use Rattle.pn_resolve.proofs.named_sorts.NamedSorts.share.Goals as goal

pub returns : goal.returns
returns c =
    let kept = c.self.inside.kept.items in
    let places = c.self.inside.places.items in
    let place_is : c.place_at.result ≡ slice_index_or places c.args.other None = c.place_at.ensures ∙ ap (λ ps. slice_index_or ps c.args.other None) c.deref.ensures.value in
    let other = ap (sort_found kept) place_is ∙ sym (sort_at_is kept places c.args.other) in
    map-set (sort_found kept) places c.args.place c.place_at.result
    ∙ ap (slice_set (sorts_found kept places) c.args.place) other
    ∙ ap (λ (ss : List (Option Sort)). slice_set ss c.args.place (sort_in ss c.args.other)) c.self.view_is
