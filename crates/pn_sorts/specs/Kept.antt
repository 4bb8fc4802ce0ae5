-- Where the sorts of variables, and the base sorts of partitions, are kept.
use Rattle.std.specs.Prelude.{ℕ, List, Option, Some, None}
use Rattle.std.specs.List.{slice_get}
use Rattle.std.specs.Option.{option_and_then}
use Rattle.pn_syntax.specs.declared.declaration.Declaration.{Declaration}
use Rattle.pn_syntax.specs.declared.declaration.Declaration.TheVariants as declarations
use Rattle.pn_syntax.specs.declared.sort_expr.SortExpr.{SortExpr}
use Rattle.pn_values.specs.declared.sort.Sort.{Sort}
use Rattle.pn_resolve.specs.Tables.{sort_in}
use Rattle.pn_sorts.specs.declared.kept.Kept.{Kept}
use Rattle.pn_sorts.specs.declared.kept.Kept.TheVariants as kept

-- the sort expression of a variable, and that of a partition's base sort
abbrev pub asked_of : Declaration → Option SortExpr
asked_of (declarations.Named id name body at) = None
asked_of (declarations.Variable id name sort at) = Some sort
asked_of (declarations.Partition id name sort elements at) = Some sort

-- the sort that is kept, where the sorts of names stand in the first list
abbrev pub sort_of_kept : List (Option Sort) → Kept → Option Sort
sort_of_kept named kept.Nowhere = None
sort_of_kept named (kept.Here sort) = Some sort
sort_of_kept named (kept.Named place) = sort_in named place

-- the sort that is kept for the declaration at a place
abbrev pub sort_kept : List (Option Sort) → List Kept → ℕ → Option Sort
sort_kept named all place = option_and_then (sort_of_kept named) (slice_get all place)
