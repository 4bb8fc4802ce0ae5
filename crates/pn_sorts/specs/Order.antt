-- Declarations whose offsets rise in document order, as those of a document do.
use Rattle.std.specs.Prelude.{ℕ, List, [], ◌∷◌, ◌++◌, map}
use Rattle.std.specs.List.{flat_map}
use Rattle.pn_faults.specs.Rising.{Rise}
use Rattle.pn_syntax.specs.declared.declaration.Declaration.{Declaration}
use Rattle.pn_syntax.specs.declared.declaration.Declaration.TheVariants as declarations
use Rattle.pn_syntax.specs.declared.declaration.PartElement.{PartElement}
use Rattle.pn_syntax.specs.declared.declaration.SortBody.{SortBody}
use Rattle.pn_syntax.specs.declared.declaration.SortBody.TheVariants as bodies
use Rattle.pn_syntax.specs.declared.sort_expr.SortExpr.{SortExpr}
use Rattle.pn_syntax.specs.declared.sort_expr.SortNode.TheOpen as layer
use Rattle.pn_syntax.specs.declared.sort_expr.SortNode.TheFolds.{fold-SortExpr}
use Rattle.pn_resolve.specs.Standing.{at_of_constant}

-- the offsets in a layer of a sort expression, where those of its parts are known
abbrev pub offsets_in_sort_layer : layer.SortNode-F (List ℕ) (List ℕ) → List ℕ
offsets_in_sort_layer layer.Dot = []
offsets_in_sort_layer layer.Bool = []
offsets_in_sort_layer (layer.Range start end) = []
offsets_in_sort_layer (layer.Product parts) = flat_map (λ offsets. offsets) parts
offsets_in_sort_layer (layer.User name) = []
offsets_in_sort_layer layer.Integer = []
offsets_in_sort_layer layer.Natural = []
offsets_in_sort_layer layer.Positive = []
offsets_in_sort_layer layer.Text = []
offsets_in_sort_layer (layer.List part) = part

-- the offset of a sort expression and those of the expressions in it, in document order
abbrev pub offsets_of_sort : SortExpr → List ℕ
offsets_of_sort = fold-SortExpr (List ℕ) (List ℕ) offsets_in_sort_layer (λ e. e.at ∷ e.node)

-- those of what a `namedsort` names
abbrev pub offsets_of_body : SortBody → List ℕ
offsets_of_body (bodies.Plain e) = offsets_of_sort e
offsets_of_body (bodies.Finite constants) = map (λ c. c.at) constants
offsets_of_body (bodies.Cyclic constants) = map (λ c. c.at) constants

-- the offset of an element of a partition and those of the values that it lists
abbrev pub offsets_of_element : PartElement → List ℕ
offsets_of_element e = e.at ∷ map at_of_constant e.values

-- the offset of a declaration and those in it
abbrev pub offsets_of_declaration : Declaration → List ℕ
offsets_of_declaration (declarations.Named id name body at) = at ∷ offsets_of_body body
offsets_of_declaration (declarations.Variable id name sort at) = at ∷ offsets_of_sort sort
offsets_of_declaration (declarations.Partition id name sort elements at) = at ∷ (offsets_of_sort sort ++ flat_map offsets_of_element elements)

-- the offsets in declarations rise in document order
abbrev pub AreOrdered : List Declaration → Type 0
AreOrdered items = Rise (flat_map offsets_of_declaration items)
