-- The declarations that an element spells (ISO/IEC 15909-2, declarations). The words speak of every element, but mean something of those alone that a document may have as declarations.
use Rattle.std.specs.Prelude.{List, map, codes, if◌then◌else◌}
use Rattle.std.specs.Option.{option_map, unwrap_or}
use Rattle.pn_tree.specs.Elements.{attr_value}
use Rattle.pn_tree.specs.declared.element.Element.{Element}
use Rattle.pn_syntax.specs.declared.declaration.ConstExpr.{ConstExpr}
use Rattle.pn_syntax.specs.declared.declaration.ConstExpr.TheVariants as values
use Rattle.pn_syntax.specs.declared.declaration.Constant.{Constant}
use Rattle.pn_syntax.specs.declared.declaration.Declaration.{Declaration}
use Rattle.pn_syntax.specs.declared.declaration.Declaration.TheVariants as declarations
use Rattle.pn_syntax.specs.declared.declaration.PartElement.{PartElement}
use Rattle.pn_syntax.specs.declared.declaration.SortBody.{SortBody}
use Rattle.pn_syntax.specs.declared.declaration.SortBody.TheVariants as bodies
use Rattle.pn_syntax.specs.declared.sort_expr.SortExpr.{SortExpr}
use Rattle.pn_spelling.specs.Parts.{attribute_of, child_elements, children_named, first_child, has_name, number_at, other_child, start_in, end_in}
use Rattle.pn_spelling.specs.ReadSorts.{no_sort, sort_in, sort_read}

-- a constant of an enumeration
abbrev pub constant_read : Element → Constant
constant_read e = record { id = attribute_of (codes "id") e; name = attr_value (codes "name") e.attrs; at = e.at }

-- what the element in a `namedsort` says
abbrev pub body_of : Element → SortBody
body_of e =
    if has_name (codes "finiteenumeration") e then bodies.Finite (map constant_read (child_elements e)) else (
    if has_name (codes "cyclicenumeration") e then bodies.Cyclic (map constant_read (child_elements e)) else bodies.Plain (sort_read e))

-- what a `namedsort` names
abbrev pub body_in : Element → SortBody
body_in e = unwrap_or (option_map body_of (first_child e)) (bodies.Plain no_sort)

-- a value that an element of a partition lists
abbrev pub value_read : Element → ConstExpr
value_read e =
    if has_name (codes "finiteintrangeconstant") e then values.Range (number_at (codes "value") e) (start_in e) (end_in e) e.at else values.Named (attribute_of (codes "declaration") e) e.at

-- an element of a partition
abbrev pub part_read : Element → PartElement
part_read e = record { id = attribute_of (codes "id") e; name = attr_value (codes "name") e.attrs; values = map value_read (child_elements e); at = e.at }

-- the sort that a partition splits: it may stand behind the partition's elements
abbrev pub base_in : Element → SortExpr
base_in e = unwrap_or (option_map sort_read (other_child (codes "partitionelement") e)) no_sort

-- one declaration of each kind
abbrev pub variable_read : Element → Declaration
variable_read e = declarations.Variable (attribute_of (codes "id") e) (attr_value (codes "name") e.attrs) (sort_in e) e.at

abbrev pub partition_read : Element → Declaration
partition_read e = declarations.Partition (attribute_of (codes "id") e) (attr_value (codes "name") e.attrs) (base_in e) (map part_read (children_named (codes "partitionelement") e)) e.at

abbrev pub named_read : Element → Declaration
named_read e = declarations.Named (attribute_of (codes "id") e) (attr_value (codes "name") e.attrs) (body_in e) e.at

-- one declaration
abbrev pub declaration_read : Element → Declaration
declaration_read e = if has_name (codes "variabledecl") e then variable_read e else (if has_name (codes "partition") e then partition_read e else named_read e)

-- the declarations that stand in a `declarations`, in order
abbrev pub declarations_read : Element → List Declaration
declarations_read e = map declaration_read (child_elements e)
