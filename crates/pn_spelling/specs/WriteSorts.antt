-- The element of a sort: the one that spells it in canonical text (ISO/IEC 15909-2, sorts).
use Rattle.std.specs.Prelude.{ℤ, [], ◌∷◌, map, codes}
use Rattle.std.specs.Fmt.{signed_decimal}
use Rattle.pn_tree.specs.declared.element.Element.{Element}
use Rattle.pn_tree.specs.declared.element.Child.TheVariants as children
use Rattle.pn_syntax.specs.declared.sort_expr.SortExpr.{SortExpr}
use Rattle.pn_syntax.specs.declared.sort_expr.SortNode.TheOpen as layer
use Rattle.pn_syntax.specs.declared.sort_expr.SortNode.TheFolds.{fold-SortExpr}
use Rattle.pn_spelling.specs.Writing.{attribute, made, attributed, enclosing}

-- the range from `start` to `end`
abbrev pub range_element : ℤ → ℤ → Element
range_element start end = made (codes "finiteintrange") (attribute (codes "start") (signed_decimal start) ∷ attribute (codes "end") (signed_decimal end) ∷ []) []

-- one sort element, whose parts are given as elements
abbrev pub sort_step : layer.SortNode-F Element Element → Element
sort_step layer.Dot = made (codes "dot") [] []
sort_step layer.Bool = made (codes "bool") [] []
sort_step (layer.Range start end) = range_element start end
sort_step (layer.Product parts) = made (codes "productsort") [] (map children.Element parts)
sort_step (layer.User name) = attributed (codes "usersort") (codes "declaration") name
sort_step layer.Integer = made (codes "integer") [] []
sort_step layer.Natural = made (codes "natural") [] []
sort_step layer.Positive = made (codes "positive") [] []
sort_step layer.Text = made (codes "string") [] []
sort_step (layer.List item) = enclosing (codes "list") item

-- the element of a sort
abbrev pub sort_element : SortExpr → Element
sort_element = fold-SortExpr Element Element sort_step (λ e. e.node)
