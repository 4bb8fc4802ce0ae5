-- The sort that an element spells (ISO/IEC 15909-2, sorts). The words speak of every element, but mean something of those alone that a document may have as a sort.
use Rattle.std.specs.Prelude.{ℕ, zero, suc, List, map, codes, if◌then◌else◌}
use Rattle.std.specs.List.{slice_get}
use Rattle.std.specs.Option.{option_map, unwrap_or}
use Rattle.pn_tree.specs.Depth.{depth_of}
use Rattle.pn_tree.specs.declared.element.Element.{Element}
use Rattle.pn_syntax.specs.declared.sort_expr.SortExpr.{SortExpr}
use Rattle.pn_syntax.specs.declared.sort_expr.SortNode.{SortNode}
use Rattle.pn_syntax.specs.declared.sort_expr.SortNode.TheVariants as nodes
use Rattle.pn_spelling.specs.Parts.{attribute_of, child_elements, first_child, has_name, number_at}

-- the sort that stands where none is written
abbrev pub no_sort : SortExpr
no_sort = record { at = 0; node = nodes.Dot }

-- the first of some sorts
abbrev pub first_sort : List SortExpr → SortExpr
first_sort sorts = unwrap_or (slice_get sorts 0) no_sort

-- what a sort element says in which these sorts stand
abbrev pub sort_node : Element → List SortExpr → SortNode
sort_node e sorts =
    if has_name (codes "bool") e then nodes.Bool else (
    if has_name (codes "finiteintrange") e then nodes.Range (number_at (codes "start") e) (number_at (codes "end") e) else (
    if has_name (codes "productsort") e then nodes.Product sorts else (
    if has_name (codes "usersort") e then nodes.User (attribute_of (codes "declaration") e) else (
    if has_name (codes "integer") e then nodes.Integer else (
    if has_name (codes "natural") e then nodes.Natural else (
    if has_name (codes "positive") e then nodes.Positive else (
    if has_name (codes "string") e then nodes.Text else (
    if has_name (codes "list") e then nodes.List (first_sort sorts) else nodes.Dot))))))))

-- the sort that an element of so many levels spells
unfoldable pub sort_within : ℕ → Element → SortExpr
sort_within zero e = no_sort
sort_within (suc levels) e = record { at = e.at; node = sort_node e (map (sort_within levels) (child_elements e)) }

-- the sort that an element spells
abbrev pub sort_read : Element → SortExpr
sort_read e = sort_within (depth_of e) e

-- the sort that stands in an element
abbrev pub sort_in : Element → SortExpr
sort_in e = unwrap_or (option_map sort_read (first_child e)) no_sort
