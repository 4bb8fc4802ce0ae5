-- The element of declarations: the one that spells them in canonical text (ISO/IEC 15909-2, declarations).
use Rattle.std.specs.Prelude.{ℕ, List, [], ◌∷◌, codes, Option, None, Some}
use Rattle.std.specs.Fmt.{signed_decimal}
use Rattle.pn_tree.specs.declared.element.Attr.{Attr}
use Rattle.pn_tree.specs.declared.element.Element.{Element}
use Rattle.pn_tree.specs.declared.element.Child.TheVariants as children
use Rattle.pn_syntax.specs.declared.declaration.ConstExpr.{ConstExpr}
use Rattle.pn_syntax.specs.declared.declaration.ConstExpr.TheVariants as values
use Rattle.pn_syntax.specs.declared.declaration.Constant.{Constant}
use Rattle.pn_syntax.specs.declared.declaration.Declaration.{Declaration}
use Rattle.pn_syntax.specs.declared.declaration.Declaration.TheVariants as declarations
use Rattle.pn_syntax.specs.declared.declaration.PartElement.{PartElement}
use Rattle.pn_syntax.specs.declared.declaration.SortBody.{SortBody}
use Rattle.pn_syntax.specs.declared.declaration.SortBody.TheVariants as bodies
use Rattle.pn_spelling.specs.Writing.{attribute, made, attributed, all_kids}
use Rattle.pn_spelling.specs.WriteSorts.{range_element, sort_element}
use Rattle.pn_spelling.specs.WriteTerms.{constant_of}

-- a name as attributes: none where there is no name
abbrev pub name_attrs : Option (List ℕ) → List Attr
name_attrs None = []
name_attrs (Some name) = attribute (codes "name") name ∷ []

-- an id, then the name where there is one
abbrev pub named_attrs : List ℕ → Option (List ℕ) → List Attr
named_attrs id name = attribute (codes "id") id ∷ name_attrs name

abbrev pub constant_element : Constant → Element
constant_element c = made (codes "feconstant") (named_attrs c.id c.name) []

-- what a `namedsort` names
abbrev pub body_element : SortBody → Element
body_element (bodies.Plain sort) = sort_element sort
body_element (bodies.Finite constants) = made (codes "finiteenumeration") [] (all_kids constant_element constants)
body_element (bodies.Cyclic constants) = made (codes "cyclicenumeration") [] (all_kids constant_element constants)

-- a value that an element of a partition lists
abbrev pub value_element : ConstExpr → Element
value_element (values.Named id at) = attributed (codes "useroperator") (codes "declaration") id
value_element (values.Range value start end at) = constant_of (codes "finiteintrangeconstant") (signed_decimal value) (range_element start end)

abbrev pub part_element : PartElement → Element
part_element e = made (codes "partitionelement") (named_attrs e.id e.name) (all_kids value_element e.values)

abbrev pub declaration_element : Declaration → Element
declaration_element (declarations.Named id name body at) = made (codes "namedsort") (named_attrs id name) (children.Element (body_element body) ∷ [])
declaration_element (declarations.Variable id name sort at) = made (codes "variabledecl") (named_attrs id name) (children.Element (sort_element sort) ∷ [])
declaration_element (declarations.Partition id name sort elements at) = made (codes "partition") (named_attrs id name) (children.Element (sort_element sort) ∷ all_kids part_element elements)

-- the element `declarations`
abbrev pub declarations_element : List Declaration → Element
declarations_element ds = made (codes "declarations") [] (all_kids declaration_element ds)
