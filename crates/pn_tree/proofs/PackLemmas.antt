-- Kids and nodes that are kept in few bytes.
use Rattle.std.proofs.Common.{◌≡◌, List, [], ◌∷◌, ◌++◌, length, map, get_or, refl, ap, ◌∙◌}
use Rattle.std.specs.List.{All}
use Rattle.std.proofs.lemmas.List.{get_or_append_left, map-append}
use Rattle.pn_tree.specs.Tables.{HasGrown}
use Rattle.pn_tree.specs.Packed.{no_shape, shape_of, shaped, node_in, HasStoredShape}
use Rattle.pn_tree.specs.declared.tables.Node.{Node}
use Rattle.pn_tree.specs.declared.nodes.Shape.{Shape}
use Rattle.pn_tree.specs.declared.nodes.Entry.{Entry}
use Rattle.pn_tree.proofs.CutLemmas.{all_first, all_others}

-- entries keep their nodes where shapes are put behind the others
nodes_same : (shapes more : List Shape) (es : List Entry) → All (HasStoredShape (length shapes)) es → map (node_in (shapes ++ more)) es ≡ map (node_in shapes) es
nodes_same shapes more [] h = refl
nodes_same shapes more (e ∷ es) h =
    let first : get_or (shapes ++ more) e.shape no_shape ≡ get_or shapes e.shape no_shape =
    get_or_append_left shapes more no_shape e.shape (all_first (HasStoredShape (length shapes)) e es h) in
    λ i. shaped (first i) e.at ∷ nodes_same shapes more es (all_others (HasStoredShape (length shapes)) e es h) i

-- a node is put behind the others
pub nodes_pushed : (shapes grown : List Shape) (es : List Entry) (e : Entry) (n : Node) → HasGrown shapes grown → All (HasStoredShape (length shapes)) es
    → get_or grown e.shape no_shape ≡ shape_of n → e.at ≡ n.at → map (node_in grown) (es ++ (e ∷ [])) ≡ map (node_in shapes) es ++ (n ∷ [])
nodes_pushed shapes grown es e n g h s a =
    map-append (node_in grown) es (e ∷ [])
    ∙ (λ i. map (node_in (g.1 i)) es ++ (shaped (s i) (a i) ∷ []))
    ∙ ap (λ l. l ++ (n ∷ [])) (nodes_same shapes g.0 es h)
