-- The term that an element spells (ISO/IEC 15909-2, terms). The words speak of every element, but mean something of those alone that a document may have as a term.
use Rattle.std.specs.Prelude.{ℕ, zero, suc, List, map, codes, false, if◌then◌else◌}
use Rattle.std.specs.List.{find, slice_get}
use Rattle.std.specs.Option.{option_map, unwrap_or}
use Rattle.std.specs.Str.{bytes_eq}
use Rattle.pn_operators.specs.Operators.{name_of}
use Rattle.pn_operators.specs.Rows.{all_operators}
use Rattle.pn_operators.specs.declared.op.Op.{Op}
use Rattle.pn_operators.specs.declared.op.Op.TheVariants as op
use Rattle.pn_tree.specs.Depth.{depth_of}
use Rattle.pn_tree.specs.declared.element.Element.{Element}
use Rattle.pn_syntax.specs.declared.sort_expr.SortExpr.{SortExpr}
use Rattle.pn_syntax.specs.declared.term.NumberSort.{NumberSort}
use Rattle.pn_syntax.specs.declared.term.NumberSort.TheVariants as numbers
use Rattle.pn_syntax.specs.declared.term.Term.{Term}
use Rattle.pn_syntax.specs.declared.term.TermNode.{TermNode}
use Rattle.pn_syntax.specs.declared.term.TermNode.TheVariants as nodes
use Rattle.pn_spelling.specs.Parts.{attribute_of, child_elements, first_child, has_name, number_at, start_in, end_in}
use Rattle.pn_spelling.specs.ReadSorts.{no_sort, sort_in, sort_read}

-- the operator whose element has this name
abbrev pub operator_named : List ℕ → Op
operator_named name = unwrap_or (find (λ o. bytes_eq (name_of o) name) all_operators) op.DotConstant

-- the sort of a number that an element names
abbrev pub number_sort_of : Element → NumberSort
number_sort_of e =
    if has_name (codes "natural") e then numbers.Natural else (if has_name (codes "positive") e then numbers.Positive else numbers.Integer)

abbrev pub basis_of : Element → SortExpr
basis_of e = if has_name (codes "multisetsort") e then sort_in e else sort_read e

-- the sort in an element, in a `multisetsort` where there is one around it
abbrev pub basis_in : Element → SortExpr
basis_in e = unwrap_or (option_map basis_of (first_child e)) no_sort

-- the sort of a number that is named in an element
abbrev pub number_sort_in : Element → NumberSort
number_sort_in e = unwrap_or (option_map number_sort_of (first_child e)) numbers.Integer

-- the term that stands where none is written
abbrev pub no_term : Term
no_term = record { at = 0; node = nodes.Bool false }

-- the first of some terms
abbrev pub first_term : List Term → Term
first_term terms = unwrap_or (slice_get terms 0) no_term

-- the term in an element, where it is known which terms the elements in it spell
abbrev pub term_inside : (Element → Term) → Element → Term
term_inside read e = unwrap_or (option_map read (first_child e)) no_term

-- what a term element says whose arguments are these terms
abbrev pub term_node : Element → List Term → TermNode
term_node e arguments =
    if has_name (codes "variable") e then nodes.Variable (attribute_of (codes "refvariable") e) else (
    if has_name (codes "useroperator") e then nodes.UserOp (attribute_of (codes "declaration") e) else (
    if has_name (codes "booleanconstant") e then nodes.Bool (bytes_eq (attribute_of (codes "value") e) (codes "true")) else (
    if has_name (codes "numberconstant") e then nodes.Number (number_at (codes "value") e) (number_sort_in e) else (
    if has_name (codes "finiteintrangeconstant") e then nodes.RangeConst (number_at (codes "value") e) (start_in e) (end_in e) else (
    if has_name (codes "stringconstant") e then nodes.Text (attribute_of (codes "value") e) else (
    if has_name (codes "all") e then nodes.All (basis_in e) else (
    if has_name (codes "empty") e then nodes.Empty (basis_in e) else (
    if has_name (codes "emptylist") e then nodes.EmptyList (sort_in e) else (
    if has_name (codes "partitionelementof") e then nodes.PartitionOf (attribute_of (codes "refpartition") e) (first_term arguments)
    else nodes.Apply (operator_named e.name) arguments)))))))))

-- the term that an element of so many levels spells
unfoldable pub term_within : ℕ → Element → Term
term_within zero e = no_term
term_within (suc levels) e = record { at = e.at; node = term_node e (map (term_inside (term_within levels)) (child_elements e)) }

-- the term that an element spells
abbrev pub term_read : Element → Term
term_read e = term_within (depth_of e) e

-- the term that stands in an element
abbrev pub term_in : Element → Term
term_in e = term_inside term_read e

-- the term in the `subterm` that stands in an element
abbrev pub argument_in : Element → Term
argument_in e = unwrap_or (option_map term_in (first_child e)) no_term
