-- Which declarations the sort expressions of declarations name, as a graph.
use Rattle.std.specs.Prelude.{◌≡◌, ℕ, List, [], Bool, true, ◌==◌, ◌||◌, length, Option, Some, None, slice_index_or, if◌then◌else◌}
use Rattle.std.specs.List.{flat_map, slice_get}
use Rattle.std.specs.Option.{option_and_then, option_to_list}
use Rattle.pn_syntax.specs.declared.declaration.Declaration.{Declaration}
use Rattle.pn_syntax.specs.declared.sort_expr.SortExpr.{SortExpr}
use Rattle.pn_syntax.specs.declared.sort_expr.SortNode.TheOpen as layer
use Rattle.pn_syntax.specs.declared.sort_expr.SortNode.TheFolds.{fold-SortExpr}
use Rattle.pn_names.specs.declared.Declared.{Declared}
use Rattle.pn_cycles.specs.Orders.{TellsCycles}
use Rattle.pn_ids.specs.Names.{named_in}
use Rattle.pn_names.specs.Names.{names_of, sort_place}
use Rattle.pn_resolve.specs.Standing.{expr_of, is_named}
use Rattle.pn_resolve.specs.declared.links.Sources.{Sources}
use Rattle.pn_resolve.specs.declared.links.Sources.TheVariants.{All, Named, NamedAnd}

abbrev pub places_in : (List ℕ → Option ℕ) → layer.SortNode-F (List ℕ) (List ℕ) → List ℕ
places_in place layer.Dot = []
places_in place layer.Bool = []
places_in place (layer.Range start end) = []
places_in place (layer.Product parts) = flat_map (λ part. part) parts
places_in place (layer.User name) = option_to_list (place name)
places_in place layer.Integer = []
places_in place layer.Natural = []
places_in place layer.Positive = []
places_in place layer.Text = []
places_in place (layer.List part) = part

-- the places of the declarations that an expression names, in the order of the expression
abbrev pub places_of : (List ℕ → Option ℕ) → SortExpr → List ℕ
places_of place = fold-SortExpr (List ℕ) (List ℕ) (places_in place) (λ e. e.node)

-- the place of the `namedsort` or `partition` of this id
abbrev pub place_by : List (List ℕ × Declared) → List ℕ → Option ℕ
place_by names name = option_and_then sort_place (named_in names name)

-- whether edges lead from a declaration
abbrev pub leads_from : Sources → ℕ → Declaration → Bool
leads_from All place d = true
leads_from Named place d = is_named d
leads_from (NamedAnd other) place d = is_named d || (place == other)

abbrev pub places_of_some : (List ℕ → Option ℕ) → Option SortExpr → List ℕ
places_of_some place None = []
places_of_some place (Some e) = places_of place e

-- where the edges from a declaration lead
abbrev pub row_of : List (List ℕ × Declared) → Sources → ℕ → Declaration → List ℕ
row_of names sources place d = if leads_from sources place d then places_of_some (place_by names) (expr_of d) else []

-- the graph of the declarations from which edges lead
pub record IsGraph (items : List Declaration) (names : List (List ℕ × Declared)) (sources : Sources) (graph : List (List ℕ)) : Type 0 where
  pub sized : length graph ≡ length items
  pub rows : (place : ℕ) (d : Declaration) → slice_get items place ≡ Some d → slice_index_or graph place [] ≡ row_of names sources place d

-- which declarations are on a cycle of their graph
pub record TellsCyclesOf (items : List Declaration) (sources : Sources) (on_cycle : List Bool) : Type 0 where
  pub graph : List (List ℕ)
  pub is_graph : IsGraph items (names_of items) sources graph
  pub sized : length on_cycle ≡ length items
  pub tells : TellsCycles graph on_cycle
