use Rattle.std.proofs.Common.{[], ◌∷◌, ◌++◌, map, refl, ap, ◌∙◌}
use Rattle.pn_tree.specs.Packed.{NodeList, node_in}
use Rattle.pn_tree.proofs.PackLemmas.{nodes_pushed}
use Rattle.pn_tree.proofs.nodes.Nodes.push.Goals as goal

pub returns-clause-items : goal.returns-clause-items
returns-clause-items c =
    ap (map (node_in c.place_of-shape.new.shapes.items)) c.push_reserved.ensures.items
    ∙ nodes_pushed c.self.inside.shapes.items c.place_of-shape.new.shapes.items c.self.inside.entries.items _ c.args.node c.place_of-shape.ensures.grown c.self.invariant.each
    (c.place_of-shape.ensures.shape ∙ c.shared.ensures) refl
    ∙ ap (λ (v : NodeList). v.items ++ (c.args.node ∷ [])) c.self.view_is
