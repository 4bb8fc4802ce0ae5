use Rattle.std.proofs.Common.{subst, sym}
use Rattle.pn_facts.proofs.Results.{if_ok}
use Rattle.pn_marked.specs.Gathering.{AreTermsOn}
use Rattle.pn_marked.proofs.MarkedLemmas.{coloured_are_marked}
use Rattle.pn_marked.proofs.marked.coloured_places.Goals as goal

pub returns : goal.returns
returns c =
    if_ok _ _ c.places_with.result
    (λ all made.
    coloured_are_marked c.args.net.now c.args.marking.now c.deref.result.now all c.requires.kind (subst (AreTermsOn c.args.net.now c.args.marking.now) (sym c.deref.ensures.value) c.in_ok-terms.ensures) made)
    c.places_with.ensures
