use Rattle.std.proofs.Common.{get_or, Some, sym, ap, ◌∙◌, arith}
use Rattle.pn_tree.specs.Tables.{element_in, kid_in}
use Rattle.pn_tree.specs.Views.{element_of}
use Rattle.pn_tree.specs.declared.element.Child.TheVariants as children
use Rattle.pn_tree.proofs.DepthLemmas.{element_is_shallower, some_levels}
use Rattle.pn_tree.proofs.ViewLemmas.{kids_counted, kid_at_place, kid_same, kid_root}
use Rattle.pn_tree.proofs.view.View.kid.Goals as goal

pub place-requires : goal.place-requires
place-requires c =
    let counted = kids_counted c.args.self.store.now (element_of c.args.self) c.own_node.result c.own_node.ensures.made c.own_node.ensures.within in
    omega (arith, counted, c.requires)

pub invariant_of-result : goal.invariant_of-result
unfolding element_of
invariant_of-result c =
    let t = c.args.self.store.now in
    let n = c.own_node.result in
    let counted = kids_counted t (element_of c.args.self) n c.own_node.ensures.made c.own_node.ensures.within in
    let there = kid_at_place t (element_of c.args.self) n c.own_node.ensures.made c.own_node.ensures.within c.args.i c.slot.result (omega (arith, counted, c.requires))
    (c.slot.ensures.slot ∙ ap (λ p. get_or t.kids p c.slot.result) c.place.ensures) in
    let is = there ∙ ap (λ s. Some (kid_in (element_in 255 t) t.bytes s)) c.in-Element.is in
    record { is_tree = kid_root t c.args.self.node c.in-Element.node c.args.i c.args.self.is_tree.is_tree is c.in-Element.ensures.within }

pub returns-in-Element-clause-kid : goal.returns-in-Element-clause-kid
unfolding element_of
returns-in-Element-clause-kid c =
    let t = c.args.self.store.now in
    let n = c.own_node.result in
    let counted = kids_counted t (element_of c.args.self) n c.own_node.ensures.made c.own_node.ensures.within in
    let there = kid_at_place t (element_of c.args.self) n c.own_node.ensures.made c.own_node.ensures.within c.args.i c.slot.result (omega (arith, counted, c.requires))
    (c.slot.ensures.slot ∙ ap (λ p. get_or t.kids p c.slot.result) c.place.ensures) in
    let is = there ∙ ap (λ s. Some (kid_in (element_in 255 t) t.bytes s)) c.in-Element.is in
    is ∙ ap (λ e. Some (children.Element e)) (sym (kid_same t c.args.self.node c.in-Element.node c.args.i c.args.self.is_tree.is_tree is))

pub returns-in-Element-clause-depth : goal.returns-in-Element-clause-depth
unfolding element_of
returns-in-Element-clause-depth c =
    let t = c.args.self.store.now in
    let n = c.own_node.result in
    let counted = kids_counted t (element_of c.args.self) n c.own_node.ensures.made c.own_node.ensures.within in
    let there = kid_at_place t (element_of c.args.self) n c.own_node.ensures.made c.own_node.ensures.within c.args.i c.slot.result (omega (arith, counted, c.requires))
    (c.slot.ensures.slot ∙ ap (λ p. get_or t.kids p c.slot.result) c.place.ensures) in
    let is = there ∙ ap (λ s. Some (kid_in (element_in 255 t) t.bytes s)) c.in-Element.is in
    element_is_shallower (element_of c.args.self) c.args.i (element_in 256 t c.in-Element.node)
    (is ∙ ap (λ e. Some (children.Element e)) (sym (kid_same t c.args.self.node c.in-Element.node c.args.i c.args.self.is_tree.is_tree is)))

pub returns-in-Text-clause-kid : goal.returns-in-Text-clause-kid
returns-in-Text-clause-kid c =
    let t = c.args.self.store.now in
    let n = c.own_node.result in
    let counted = kids_counted t (element_of c.args.self) n c.own_node.ensures.made c.own_node.ensures.within in
    let there = kid_at_place t (element_of c.args.self) n c.own_node.ensures.made c.own_node.ensures.within c.args.i c.slot.result (omega (arith, counted, c.requires))
    (c.slot.ensures.slot ∙ ap (λ p. get_or t.kids p c.slot.result) c.place.ensures) in
    there ∙ ap (λ s. Some (kid_in (element_in 255 t) t.bytes s)) c.in-Text.is ∙ ap (λ b. Some (children.Text b)) (sym c.text.ensures)

pub returns-in-Text-clause-depth : goal.returns-in-Text-clause-depth
returns-in-Text-clause-depth c = some_levels (element_of c.args.self)
