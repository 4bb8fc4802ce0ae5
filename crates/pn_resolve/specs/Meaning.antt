-- The sort that a sort expression writes: ISO/IEC 15909-2, sorts and their declarations.
use Rattle.std.specs.Prelude.{◌≡◌, ℕ, zero, suc, ℤ, List, [], ◌∷◌, int_lt, Option, None, Some, option_map, if◌then◌else◌}
use Rattle.std.specs.List.{slice_get}
use Rattle.std.specs.Option.{option_and_then}
use Rattle.pn_syntax.specs.declared.declaration.Declaration.{Declaration}
use Rattle.pn_syntax.specs.declared.declaration.Declaration.TheVariants as declarations
use Rattle.pn_syntax.specs.declared.declaration.SortBody.{SortBody}
use Rattle.pn_syntax.specs.declared.declaration.SortBody.TheVariants as bodies
use Rattle.pn_values.specs.declared.sort.Sort.{Sort}
use Rattle.pn_values.specs.declared.sort.Sort.TheVariants as sorts
use Rattle.pn_syntax.specs.declared.sort_expr.SortExpr.{SortExpr}
use Rattle.pn_syntax.specs.declared.sort_expr.SortNode.TheOpen as layer
use Rattle.pn_syntax.specs.declared.sort_expr.SortNode.TheFolds.{fold-SortExpr}
use Rattle.pn_names.specs.Names.{sort_named}

-- the sort of a range, which is not empty
abbrev pub range_sort : ℤ → ℤ → Option Sort
range_sort start end = if int_lt end start then None else Some (sorts.Range start end)

-- all of the sorts, where each is one
abbrev pub all_sorts : List (Option Sort) → Option (List Sort)
all_sorts [] = Some []
all_sorts (s ∷ ss) = option_and_then (λ sort. option_map (λ more. sort ∷ more) (all_sorts ss)) s

abbrev pub node_sort : (List ℕ → Option Sort) → layer.SortNode-F (Option Sort) (Option Sort) → Option Sort
node_sort means layer.Dot = Some sorts.Dot
node_sort means layer.Bool = Some sorts.Bool
node_sort means (layer.Range start end) = range_sort start end
node_sort means (layer.Product parts) = option_map sorts.Product (all_sorts parts)
node_sort means (layer.User name) = means name
node_sort means layer.Integer = Some sorts.Integer
node_sort means layer.Natural = Some sorts.Natural
node_sort means layer.Positive = Some sorts.Positive
node_sort means layer.Text = Some sorts.Text
node_sort means (layer.List part) = option_map sorts.List part

-- the sort that an expression writes, where `means` tells what the names in it mean
abbrev pub sort_with : (List ℕ → Option Sort) → SortExpr → Option Sort
sort_with means = fold-SortExpr (Option Sort) (Option Sort) (node_sort means) (λ e. e.node)

-- the sort that the declaration at this place gives its name: an enumeration or partition is one by its place
abbrev pub body_sort : (List ℕ → Option Sort) → ℕ → SortBody → Option Sort
body_sort means place (bodies.Plain e) = sort_with means e
body_sort means place (bodies.Finite constants) = Some (sorts.Enumeration place)
body_sort means place (bodies.Cyclic constants) = Some (sorts.Enumeration place)

abbrev pub declared_sort : (List ℕ → Option Sort) → ℕ → Declaration → Option Sort
declared_sort means place (declarations.Named id name body at) = body_sort means place body
declared_sort means place (declarations.Variable id name sort at) = None
declared_sort means place (declarations.Partition id name sort elements at) = Some (sorts.Partition place)

-- what a name means, where names are followed at most so often one behind another
unfoldable pub meaning : List Declaration → ℕ → List ℕ → Option Sort
meaning items zero name = None
meaning items (suc levels) name = option_and_then (λ place. option_and_then (declared_sort (meaning items levels) place) (slice_get items place)) (sort_named items name)

-- the sort that the declaration at a place gives its name, where names are followed at most so often one behind another
abbrev pub sort_at_place : List Declaration → ℕ → ℕ → Option Sort
sort_at_place items levels place = option_and_then (declared_sort (meaning items levels) place) (slice_get items place)

-- an expression has this sort: following each name in it, through `namedsort`s, ends, and meets neither an unknown name nor an empty range
abbrev pub Resolves : List Declaration → SortExpr → Sort → Type 0
Resolves items e s = (levels : ℕ) × (sort_with (meaning items levels) e ≡ Some s)

-- an expression has no sort
abbrev pub HasNoSort : List Declaration → SortExpr → Type 0
HasNoSort items e = (s : Sort) → Resolves items e s → ⊥
