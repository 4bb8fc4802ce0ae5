-- What a document writes with each offset in it set to 0: two sort expressions or declarations are equal but for their offsets where these are equal.
use Rattle.std.specs.Prelude.{map}
use Rattle.pn_syntax.specs.declared.declaration.ConstExpr.{ConstExpr}
use Rattle.pn_syntax.specs.declared.declaration.ConstExpr.TheVariants as values
use Rattle.pn_syntax.specs.declared.declaration.Constant.{Constant}
use Rattle.pn_syntax.specs.declared.declaration.Declaration.{Declaration}
use Rattle.pn_syntax.specs.declared.declaration.Declaration.TheVariants as declarations
use Rattle.pn_syntax.specs.declared.declaration.PartElement.{PartElement}
use Rattle.pn_syntax.specs.declared.declaration.SortBody.{SortBody}
use Rattle.pn_syntax.specs.declared.declaration.SortBody.TheVariants as bodies
use Rattle.pn_syntax.specs.declared.sort_expr.SortExpr.{SortExpr}
use Rattle.pn_syntax.specs.declared.sort_expr.SortNode.{SortNode}
use Rattle.pn_syntax.specs.declared.sort_expr.SortNode.TheOpen as layer
use Rattle.pn_syntax.specs.declared.sort_expr.SortNode.TheViews.{roll-SortNode}
use Rattle.pn_syntax.specs.declared.sort_expr.SortNode.TheFolds.{fold-SortExpr}

-- one sort element at the offset 0, with its parts as they are given
abbrev pub at_zero : layer.SortExpr-F SortNode SortExpr → SortExpr
at_zero e = record { at = 0; node = e.node }

-- a sort expression
abbrev pub sort_without_offsets : SortExpr → SortExpr
sort_without_offsets = fold-SortExpr SortNode SortExpr roll-SortNode at_zero

-- a constant of an enumeration
abbrev pub constant_without_offset : Constant → Constant
constant_without_offset c = record { id = c.id; name = c.name; at = 0 }

-- what a `namedsort` names
abbrev pub body_without_offsets : SortBody → SortBody
body_without_offsets (bodies.Plain e) = bodies.Plain (sort_without_offsets e)
body_without_offsets (bodies.Finite constants) = bodies.Finite (map constant_without_offset constants)
body_without_offsets (bodies.Cyclic constants) = bodies.Cyclic (map constant_without_offset constants)

-- a value that an element of a partition lists
abbrev pub value_without_offset : ConstExpr → ConstExpr
value_without_offset (values.Named id at) = values.Named id 0
value_without_offset (values.Range value start end at) = values.Range value start end 0

-- an element of a partition
abbrev pub element_without_offsets : PartElement → PartElement
element_without_offsets e = record { id = e.id; name = e.name; values = map value_without_offset e.values; at = 0 }

-- a declaration
abbrev pub declaration_without_offsets : Declaration → Declaration
declaration_without_offsets (declarations.Named id name body at) = declarations.Named id name (body_without_offsets body) 0
declaration_without_offsets (declarations.Variable id name sort at) = declarations.Variable id name (sort_without_offsets sort) 0
declaration_without_offsets (declarations.Partition id name sort elements at) = declarations.Partition id name (sort_without_offsets sort) (map element_without_offsets elements) 0
