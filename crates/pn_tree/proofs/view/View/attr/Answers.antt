use Rattle.std.proofs.Common.{get_or, Some, sym, ap, ◌∙◌, arith}
use Rattle.pn_tree.specs.Views.{element_of}
use Rattle.pn_tree.proofs.ViewLemmas.{attrs_counted, attr_at_place}
use Rattle.pn_tree.proofs.view.View.attr.Goals as goal

pub place-requires : goal.place-requires
place-requires c =
    let counted = attrs_counted c.args.self.store.now (element_of c.args.self) c.own_node.result c.own_node.ensures.made c.own_node.ensures.within in
    omega (arith, counted, c.requires)

pub returns : goal.returns
returns c =
    let t = c.args.self.store.now in
    let n = c.own_node.result in
    let name = c.text.ensures in
    let value = c.text-2.ensures in
    let counted = attrs_counted t (element_of c.args.self) n c.own_node.ensures.made c.own_node.ensures.within in
    attr_at_place t (element_of c.args.self) n c.own_node.ensures.made c.own_node.ensures.within c.args.i c.pair-pair.result (omega (arith, counted, c.requires))
    (c.pair-pair.ensures.pair ∙ ap (λ p. get_or t.attrs p c.pair-pair.result) c.place.ensures)
    ∙ sym (λ j. Some (record { name = name j; value = value j }))
