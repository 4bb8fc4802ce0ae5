use Rattle.pn_net.proofs.RowLemmas.{on_ok_then}
use Rattle.pn_pages.specs.Linking.{IsEndlessFault, IsTargetFault, reference_side}
use Rattle.pn_pages.proofs.ArcLemmas.{endless_told}
use Rattle.pn_pages.proofs.TellingLemmas.{tells_both}
use Rattle.pn_pages.proofs.linking.tell_reference.Goals as goal

pub returns : goal.returns
returns c =
    let r = c.args.reference.now in
    on_ok_then c.tell_endless.result _ _ (λ is n o counts to tells.
    tells_both n (IsTargetFault n (reference_side c.args.place_refs c.args.number) r) (IsEndlessFault n r) c.args.least.now c.tell_target.new.least c.tell_endless.new.least
    (c.in_ok-tell_target.ensures n o counts to) (endless_told n r c.args.endless c.tell_target.new.least c.tell_endless.new.least tells is))
    c.tell_endless.ensures
