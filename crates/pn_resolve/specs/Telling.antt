-- What one walk over a sort expression tells, where the extents of what the names in it mean are known.
use Rattle.std.specs.Prelude.{ℕ, ℤ, List, [], ◌∷◌, ◌++◌, map, int_lt, codes, Option, Some, None, slice_index_or, if◌then◌else◌}
use Rattle.std.specs.List.{flat_map}
use Rattle.std.specs.Option.{option_and_then, option_map}
use Rattle.pn_faults.specs.declared.fault.Fault.{Fault}
use Rattle.pn_faults.specs.Order.{fault_at}
use Rattle.pn_faults.specs.declared.reason.Reason.TheVariants as reasons
use Rattle.pn_syntax.specs.declared.sort_expr.SortExpr.{SortExpr}
use Rattle.pn_syntax.specs.declared.sort_expr.SortNode.TheOpen as layer
use Rattle.pn_syntax.specs.declared.sort_expr.SortNode.TheFolds.{fold-SortExpr}
use Rattle.pn_names.specs.declared.Declared.{Declared}
use Rattle.pn_ids.specs.Names.{named_in}
use Rattle.pn_names.specs.Names.{sort_place}
use Rattle.pn_resolve.specs.declared.extent.Extent.{Extent}
use Rattle.pn_resolve.specs.declared.extent.Extent.TheVariants.{NoSort, TooBig, Fits}
use Rattle.pn_resolve.specs.Extents.{all_beside, around}
use Rattle.pn_resolve.specs.Standing.{layer_name}

-- the extent of a sort expression and the faults in it
pub record Told : Type 0 where
  pub extent : Extent
  pub faults : List Fault

abbrev pub told_extent : Told → Extent
told_extent t = t.extent

abbrev pub told_faults : Told → List Fault
told_faults t = t.faults

-- of a sort without parts
abbrev pub single : Told
single = record { extent = Fits 1 1; faults = [] }

-- of a range
abbrev pub told_range : ℕ → ℤ → ℤ → Told
told_range at start end =
    if int_lt end start then record { extent = NoSort; faults = fault_at reasons.EmptyRange at (codes "finiteintrange") ∷ [] } else single

-- of a name, whose extent is known where it names a sort
abbrev pub told_name : ℕ → List ℕ → Option Extent → Told
told_name at name None = record { extent = NoSort; faults = fault_at reasons.UnknownSort at name ∷ [] }
told_name at name (Some extent) = record { extent = extent; faults = [] }

-- of parts side by side
abbrev pub told_parts : List Told → Told
told_parts parts = record { extent = all_beside (Fits 0 0) (map told_extent parts); faults = flat_map told_faults parts }

-- of a product or list, by what is told of what is in it
abbrev pub told_around : Told → Told
told_around t = record { extent = around t.extent; faults = t.faults }

-- the fault of a sort that is too big
abbrev pub too_big : ℕ → List ℕ → Extent → List Fault
too_big at name NoSort = []
too_big at name TooBig = fault_at reasons.SortTooBig at name ∷ []
too_big at name (Fits depth nodes) = []

-- with the fault of an element that is too big
abbrev pub told_big : ℕ → List ℕ → Told → Told
told_big at name t = record { extent = t.extent; faults = t.faults ++ too_big at name t.extent }

abbrev pub told_inside : (List ℕ → Option Extent) → ℕ → layer.SortNode-F (ℕ → Told) Told → Told
told_inside known at layer.Dot = single
told_inside known at layer.Bool = single
told_inside known at (layer.Range start end) = told_range at start end
told_inside known at (layer.Product parts) = told_around (told_parts parts)
told_inside known at (layer.User name) = told_name at name (known name)
told_inside known at layer.Integer = single
told_inside known at layer.Natural = single
told_inside known at layer.Positive = single
told_inside known at layer.Text = single
told_inside known at (layer.List part) = told_around part

abbrev pub told_node : (List ℕ → Option Extent) → layer.SortNode-F (ℕ → Told) Told → ℕ → Told
told_node known node at = told_big at (layer_name node) (told_inside known at node)

-- of an expression
abbrev pub told : (List ℕ → Option Extent) → SortExpr → Told
told known = fold-SortExpr (ℕ → Told) Told (told_node known) (λ e. e.node e.at)

-- the extent of what a name means, by the extents at the places of the declarations
abbrev pub known_by : List (List ℕ × Declared) → List Extent → List ℕ → Option Extent
known_by names extents name = option_map (λ place. slice_index_or extents place NoSort) (option_and_then sort_place (named_in names name))
