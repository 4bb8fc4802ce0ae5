-- The element of a term: the one that spells it in canonical text (ISO/IEC 15909-2, terms). The sort in `all` and `empty` stands in them itself, in no `multisetsort`.
use Rattle.std.specs.Prelude.{ℕ, Bool, true, false, List, [], ◌∷◌, map, codes}
use Rattle.std.specs.Fmt.{signed_decimal}
use Rattle.pn_operators.specs.Operators.{name_of}
use Rattle.pn_tree.specs.declared.element.Element.{Element}
use Rattle.pn_tree.specs.declared.element.Child.{Child}
use Rattle.pn_tree.specs.declared.element.Child.TheVariants as children
use Rattle.pn_syntax.specs.declared.term.NumberSort.{NumberSort}
use Rattle.pn_syntax.specs.declared.term.NumberSort.TheVariants as number_sorts
use Rattle.pn_syntax.specs.declared.term.Term.{Term}
use Rattle.pn_syntax.specs.declared.term.TermNode.TheOpen as layer
use Rattle.pn_syntax.specs.declared.term.TermNode.TheFolds.{fold-Term}
use Rattle.pn_spelling.specs.Writing.{attribute, made, attributed, enclosing}
use Rattle.pn_spelling.specs.WriteSorts.{range_element, sort_element}

abbrev pub truth_text : Bool → List ℕ
truth_text false = codes "false"
truth_text true = codes "true"

-- the name of the element of a sort of numbers
abbrev pub number_sort_name : NumberSort → List ℕ
number_sort_name number_sorts.Integer = codes "integer"
number_sort_name number_sorts.Natural = codes "natural"
number_sort_name number_sorts.Positive = codes "positive"

-- an argument stands in a `subterm` of its own
abbrev pub subterm : Element → Child
subterm argument = children.Element (enclosing (codes "subterm") argument)

-- a constant with the element of its sort in it
abbrev pub constant_of : List ℕ → List ℕ → Element → Element
constant_of name value sort = made name (attribute (codes "value") value ∷ []) (children.Element sort ∷ [])

-- one element of a term, whose parts are given as elements
abbrev pub term_step : layer.TermNode-F Element Element → Element
term_step (layer.Variable name) = attributed (codes "variable") (codes "refvariable") name
term_step (layer.UserOp name) = attributed (codes "useroperator") (codes "declaration") name
term_step (layer.Bool truth) = attributed (codes "booleanconstant") (codes "value") (truth_text truth)
term_step (layer.Number value sort) = constant_of (codes "numberconstant") (signed_decimal value) (made (number_sort_name sort) [] [])
term_step (layer.RangeConst value start end) = constant_of (codes "finiteintrangeconstant") (signed_decimal value) (range_element start end)
term_step (layer.Text text) = attributed (codes "stringconstant") (codes "value") text
term_step (layer.All sort) = enclosing (codes "all") (sort_element sort)
term_step (layer.Empty sort) = enclosing (codes "empty") (sort_element sort)
term_step (layer.EmptyList sort) = enclosing (codes "emptylist") (sort_element sort)
term_step (layer.PartitionOf partition arg) = made (codes "partitionelementof") (attribute (codes "refpartition") partition ∷ []) (subterm arg ∷ [])
term_step (layer.Apply op args) = made (name_of op) [] (map subterm args)

-- the element of a term
abbrev pub term_element : Term → Element
term_element = fold-Term Element Element term_step (λ e. e.node)
