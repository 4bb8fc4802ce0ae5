-- The faults of the declarations one after another.
use Rattle.std.specs.Prelude.{ℕ, ℤ, List, [], ◌∷◌, ◌++◌, int_lt, codes, Bool, true, false, Option, Some, None, if◌then◌else◌}
use Rattle.std.specs.List.{flat_map}
use Rattle.pn_faults.specs.declared.fault.Fault.{Fault}
use Rattle.pn_faults.specs.Order.{fault_at}
use Rattle.pn_faults.specs.declared.reason.Reason.TheVariants as reasons
use Rattle.pn_syntax.specs.declared.declaration.Declaration.{Declaration}
use Rattle.pn_syntax.specs.declared.declaration.ConstExpr.{ConstExpr}
use Rattle.pn_syntax.specs.declared.declaration.ConstExpr.TheVariants as exprs
use Rattle.pn_syntax.specs.declared.declaration.PartElement.{PartElement}
use Rattle.pn_syntax.specs.declared.sort_expr.SortExpr.{SortExpr}
use Rattle.pn_names.specs.Names.{id_of, at_of}
use Rattle.pn_resolve.specs.declared.extent.Extent.{Extent}
use Rattle.pn_resolve.specs.Standing.{expr_of, elements_of}
use Rattle.pn_resolve.specs.Telling.{told}

-- of a declaration that leads back to itself
abbrev pub cycle_faults : Bool → Declaration → List Fault
cycle_faults true d = fault_at reasons.SortCycle (at_of d) (id_of d) ∷ []
cycle_faults false d = []

abbrev pub expr_faults : (List ℕ → Option Extent) → Option SortExpr → List Fault
expr_faults known None = []
expr_faults known (Some e) = (told known e).faults

-- of the sort expression of a declaration
abbrev pub sort_faults : (List ℕ → Option Extent) → Declaration → List Fault
sort_faults known d = expr_faults known (expr_of d)

-- of a range at this offset
abbrev pub empty_range_faults : ℕ → ℤ → ℤ → List Fault
empty_range_faults at start end = if int_lt end start then fault_at reasons.EmptyRange at (codes "finiteintrange") ∷ [] else []

-- of a constant
abbrev pub value_faults : ConstExpr → List Fault
value_faults (exprs.Named id at) = []
value_faults (exprs.Range value start end at) = empty_range_faults at start end

-- of the constants that an element lists
abbrev pub element_faults : PartElement → List Fault
element_faults e = flat_map value_faults e.values

-- of the constants of a partition
abbrev pub range_faults : Declaration → List Fault
range_faults d = flat_map element_faults (elements_of d)

-- of a declaration
abbrev pub faults_of : (List ℕ → Option Extent) → Bool → Declaration → List Fault
faults_of known cyclic d = cycle_faults cyclic d ++ (sort_faults known d ++ range_faults d)
