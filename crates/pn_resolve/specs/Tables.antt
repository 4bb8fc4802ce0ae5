-- What a table of the declarations' sorts holds.
use Rattle.std.specs.Prelude.{◌≡◌, ◌≤◌, ℕ, List, Bool, true, false, Option, Some, None, slice_index_or, slice_set}
use Rattle.std.specs.Option.{option_and_then}
use Rattle.pn_faults.specs.declared.fault.Fault.{Fault}
use Rattle.pn_syntax.specs.declared.declaration.Declaration.{Declaration}
use Rattle.pn_syntax.specs.declared.declaration.Declaration.TheVariants as declarations
use Rattle.pn_syntax.specs.declared.declaration.SortBody.TheVariants as bodies
use Rattle.pn_values.specs.declared.sort.Sort.{Sort}
use Rattle.pn_values.specs.declared.sort.Sort.TheVariants as sorts
use Rattle.pn_syntax.specs.declared.sort_expr.SortExpr.{SortExpr}
use Rattle.pn_names.specs.declared.Declared.{Declared}
use Rattle.pn_ids.specs.Names.{named_in}
use Rattle.pn_names.specs.Names.{names_of, sort_place, sort_named}
use Rattle.pn_resolve.specs.declared.extent.Extent.{Extent}
use Rattle.pn_resolve.specs.declared.extent.Extent.TheVariants.{NoSort, TooBig, Fits}
use Rattle.pn_resolve.specs.Extents.{extent_of}
use Rattle.pn_resolve.specs.Meaning.{sort_with, sort_at_place, Resolves, HasNoSort}
use Rattle.pn_resolve.specs.Standing.{IsBig, IsTooBig, StandsBesides}
use Rattle.pn_resolve.specs.Telling.{told, known_by}
use Rattle.pn_values.specs.Sizes.{depth_of, nodes_of}

-- for each declaration the extent of the sort of its name, and that sort where it keeps within the limits
pub record Entries : Type 0 where
  pub extents : List Extent
  pub sorts : List (Option Sort)

-- the extent at a place
abbrev pub extent_in : List Extent → ℕ → Extent
extent_in extents place = slice_index_or extents place NoSort

-- the sort at a place
abbrev pub sort_in : List (Option Sort) → ℕ → Option Sort
sort_in sorts place = slice_index_or sorts place None

-- a sort, where this extent keeps within the limits
abbrev pub within : Extent → Option Sort → Option Sort
within NoSort sort = None
within TooBig sort = None
within (Fits depth nodes) sort = sort

-- a sort, where it keeps within the limits
abbrev pub small : Option Sort → Option Sort
small sort = within (extent_of sort) sort

-- the sort of what a name means, by the sorts at the places of the declarations
abbrev pub kept_by : List (List ℕ × Declared) → List (Option Sort) → List ℕ → Option Sort
kept_by names sorts name = option_and_then (sort_in sorts) (option_and_then sort_place (named_in names name))

-- the sort expression of a `namedsort` that declares no enumeration
abbrev pub plain_expr : Declaration → Option SortExpr
plain_expr (declarations.Named id name (bodies.Plain e) at) = Some e
plain_expr (declarations.Named id name (bodies.Finite constants) at) = None
plain_expr (declarations.Named id name (bodies.Cyclic constants) at) = None
plain_expr (declarations.Variable id name sort at) = None
plain_expr (declarations.Partition id name sort elements at) = None

-- the sort of an enumeration or a partition, which is one by its place
abbrev pub own_sort : ℕ → Declaration → Option Sort
own_sort place (declarations.Named id name (bodies.Plain e) at) = None
own_sort place (declarations.Named id name (bodies.Finite constants) at) = Some (sorts.Enumeration place)
own_sort place (declarations.Named id name (bodies.Cyclic constants) at) = Some (sorts.Enumeration place)
own_sort place (declarations.Variable id name sort at) = None
own_sort place (declarations.Partition id name sort elements at) = Some (sorts.Partition place)

-- the extent of that sort
abbrev pub own_extent : ℕ → Declaration → Extent
own_extent place d = extent_of (own_sort place d)

-- the extents once the `namedsort` at a place is settled, where it has a sort expression; one on a cycle has no sort
abbrev pub extents_with : List (List ℕ × Declared) → Bool → ℕ → Option SortExpr → List Extent → List Extent
extents_with names cyclic place None extents = extents
extents_with names true place (Some e) extents = slice_set extents place NoSort
extents_with names false place (Some e) extents = slice_set extents place (told (known_by names extents) e).extent

-- the sorts likewise
abbrev pub sorts_with : List (List ℕ × Declared) → Bool → ℕ → Option SortExpr → List Extent → List (Option Sort) → List (Option Sort)
sorts_with names cyclic place None extents sorts = sorts
sorts_with names true place (Some e) extents sorts = slice_set sorts place None
sorts_with names false place (Some e) extents sorts = slice_set sorts place (within (told (known_by names extents) e).extent (sort_with (kept_by names sorts) e))

-- the table holds at each place what the name there means, and where a name has no sort, the declarations have a fault
pub record IsTable (items : List Declaration) (names : List (List ℕ × Declared)) (table : Entries) : Type 0 where
  pub are_names : names ≡ names_of items
  pub bound : ℕ
  pub extents : (levels place : ℕ) → bound ≤ levels → extent_in table.extents place ≡ extent_of (sort_at_place items levels place)
  pub sorts : (levels place : ℕ) → bound ≤ levels → sort_in table.sorts place ≡ small (sort_at_place items levels place)
  pub blame : (name : List ℕ) (place : ℕ) → sort_named items name ≡ Some place → extent_in table.extents place ≡ NoSort → (f : Fault) × StandsBesides items f

-- an expression has a sort of this extent, or none
abbrev pub IsExtent : List Declaration → SortExpr → Extent → Type 0
IsExtent items e NoSort = HasNoSort items e
IsExtent items e TooBig = IsTooBig items e
IsExtent items e (Fits depth nodes) = (s : Sort) × Resolves items e s × (IsBig s → ⊥) × (depth ≡ depth_of s) × (nodes ≡ nodes_of s)
