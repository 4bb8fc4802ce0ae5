use Rattle.std.proofs.Common.{◌≡◌, Err, Some, ap, sym, subst}
use Rattle.pn_faults.specs.Standing.{IsLeastOf}
use Rattle.pn_faults.specs.declared.fault.Refusal.TheVariants as Refusal
use Rattle.pn_net.specs.Documents.{links}
use Rattle.pn_net.specs.Links.{StandsInLinks}
use Rattle.pn_pages.specs.Linking.{AreApart}
use Rattle.pn_checks.specs.Verdicts.{in_tree}
use Rattle.pn_checks.proofs.LinkLemmas.{link_told, linked_by, page_there, shape_told, shape_unsound}
use Rattle.pn_checks.proofs.links.linked.Goals as goal

pub flatten-requires : goal.flatten-requires
flatten-requires c = record { has_page = page_there c.args.tree.now c.in-Ok.net c.in-Ok.ensures.net c.in-Ok.ensures.clean }

pub returns-in-Ok-clause-linked : goal.returns-in-Ok-clause-linked
returns-in-Ok-clause-linked c =
    let given = c.in-Ok.ensures in
    let flat = c.flatten.ensures in
    linked_by c.args.tree.now c.in-Ok.net c.flatten.result given.net c.keeps_a_tree.ensures given.clean given.writable flat.flat flat.wired flat.numbers flat.sound flat.writable

pub returns-in-Ok-clause-early : goal.returns-in-Ok-clause-early
returns-in-Ok-clause-early c f is sound = sound.links f (subst (λ m. StandsInLinks m f) c.in-Ok.ensures.net (c.flatten.ensures.stands f is))

pub returns-in-Ok-clause-stands : goal.returns-in-Ok-clause-stands
returns-in-Ok-clause-stands c f is = in_tree f (links f c.in-Ok.ensures.clean (subst (λ m. StandsInLinks m f) c.in-Ok.ensures.net (c.flatten.ensures.stands f is)))

pub returns-in-Ok-clause-least : goal.returns-in-Ok-clause-least
returns-in-Ok-clause-least c f is rises =
    let same = c.in-Ok.ensures.net in
    link_told c.args.tree.now f c.in-Ok.ensures.clean
    (subst (λ m. IsLeastOf (StandsInLinks m) (Some f)) same (c.flatten.ensures.least f is (subst AreApart (sym same) (c.offsets_tell_ids_apart.ensures c.args.tree.now rises))))

pub returns-in-Err-clause-early : goal.returns-in-Err-clause-early
returns-in-Err-clause-early c f is =
    let same : c.in-Err.refusal ≡ Refusal.Fault f = cc in
    shape_unsound c.args.tree.now f (c.in-Err.ensures.fault f (ap (λ r. Err r) same))

pub returns-in-Err-clause-stands : goal.returns-in-Err-clause-stands
returns-in-Err-clause-stands c f is =
    let same : c.in-Err.refusal ≡ Refusal.Fault f = cc in
    (shape_told c.args.tree.now f (c.in-Err.ensures.fault f (ap (λ r. Err r) same))).least.0

pub returns-in-Err-clause-least : goal.returns-in-Err-clause-least
returns-in-Err-clause-least c f is rises =
    let same : c.in-Err.refusal ≡ Refusal.Fault f = cc in
    shape_told c.args.tree.now f (c.in-Err.ensures.fault f (ap (λ r. Err r) same))
