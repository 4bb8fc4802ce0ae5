use Rattle.std.proofs.Common.{◌≡◌, sym, ap, ◌∙◌}
use Rattle.pn_faults.specs.Least.{least_fault}
use Rattle.pn_tree.specs.Views.{element_of}
use Rattle.pn_shape.specs.Faults.{all_faults, fill_faults}
use Rattle.pn_shape.specs.Spots.{tag_of}
use Rattle.pn_facts.proofs.Results.{if_ok}
use Rattle.pn_shape_faults.proofs.WalkLemmas.{fill_is, fill_unknown}
use Rattle.pn_shape_faults.proofs.walk.fill_fault.Goals as goal

pub returns-in-Some : goal.returns-in-Some
returns-in-Some c =
    let e = element_of c.args.view in
    if_ok (λ fault. fault ≡ least_fault (all_faults c.args.kind c.in-Some.tag e)) (λ fault. fault ≡ least_fault (fill_faults c.args.kind c.args.fill e)) c.part_fault.result
    (λ fault is. is ∙ ap least_fault (fill_is c.args.kind c.args.fill e c.in-Some.tag (sym c.in-Some.is ∙ (c.find_tag.ensures ∙ ap (λ name. tag_of c.args.kind name c.args.fill) c.name.ensures)))) c.part_fault.ensures

pub returns-in_ok-ask_unknown-in-None : goal.returns-in_ok-ask_unknown-in-None
returns-in_ok-ask_unknown-in-None c =
    c.in_ok-ask_unknown-in-None.ensures
    ∙ ap least_fault (fill_unknown c.args.kind c.args.fill (element_of c.args.view) (sym c.in-None.is ∙ (c.find_tag.ensures ∙ ap (λ name. tag_of c.args.kind name c.args.fill) c.name.ensures)))
