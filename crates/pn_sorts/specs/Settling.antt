-- What is settled of declarations one after another.
use Rattle.std.specs.Prelude.{◌≡◌, ◌<◌, ◌⊎◌, ℕ, List, length, Option, None, Some}
use Rattle.std.specs.List.{slice_get, Contains}
use Rattle.pn_faults.specs.declared.fault.Fault.{Fault}
use Rattle.pn_faults.specs.declared.reason.Reason.TheVariants as reasons
use Rattle.pn_faults.specs.Order.{fault_at}
use Rattle.pn_syntax.specs.declared.declaration.Declaration.{Declaration}
use Rattle.pn_syntax.specs.declared.declaration.ConstExpr.{ConstExpr}
use Rattle.pn_syntax.specs.declared.declaration.PartElement.{PartElement}
use Rattle.pn_values.specs.declared.sort.Sort.{Sort}
use Rattle.pn_syntax.specs.declared.sort_expr.SortExpr.{SortExpr}
use Rattle.pn_names.specs.Names.{at_of, id_of}
use Rattle.pn_partitions.specs.Partitions.{IsPartTable, Splits}
use Rattle.pn_resolve.specs.Meaning.{Resolves}
use Rattle.pn_resolve.specs.Standing.{HasEmptyRange, StandsBesides, StandsInSort, base_of, elements_of}
use Rattle.pn_sorts.specs.Kept.{asked_of, sort_of_kept}
use Rattle.pn_sorts.specs.declared.kept.Kept.{Kept}
use Rattle.pn_sorts.specs.Standing.{IsBadPartition, Stands}
use Rattle.pn_sorts.specs.declared.settle.Parting.{Parting}
use Rattle.pn_sorts.specs.declared.settle.Parting.TheVariants as partings

-- some constant that the elements list has an empty range
abbrev pub ListEmptyRange : List PartElement → Type 0
ListEmptyRange elements = (e : PartElement) × (c : ConstExpr) × Contains elements e × Contains e.values c × HasEmptyRange c

-- a partition with this base sort and these elements has sorts for them, and does not split its base sort
abbrev pub IsBadlyDivided : List Declaration → SortExpr → List PartElement → Type 0
IsBadlyDivided items e elements = (ListEmptyRange elements → ⊥) × (base : Sort) × Resolves items e base × (Splits items base elements → ⊥)

-- what the elements do to the base sort
abbrev pub IsParting : List Declaration → SortExpr → List PartElement → Parting → Type 0
IsParting items e elements partings.Unasked = ListEmptyRange elements ⊎ ((base : Sort) → Resolves items e base → ⊥)
IsParting items e elements partings.Bad = IsBadlyDivided items e elements
IsParting items e elements (partings.Splits table) = (base : Sort) × Resolves items e base × Splits items base elements × IsPartTable items base elements table

-- this is the fault of a partition of this id and offset, which is a bad one
abbrev pub IsBadFault : List Declaration → SortExpr → List PartElement → List ℕ → ℕ → Fault → Type 0
IsBadFault items e elements id at f = IsBadlyDivided items e elements × (f ≡ fault_at reasons.BadPartition at id)

-- this is the fault of a declaration that is a bad partition
abbrev pub IsBadIn : List Declaration → Declaration → Fault → Type 0
IsBadIn items d f = IsBadPartition items d × (f ≡ fault_at reasons.BadPartition (at_of d) (id_of d))

-- the table of a partition; or none, where it is a bad one or can't be asked
abbrev pub IsPartingTable : List Declaration → SortExpr → List PartElement → Option (List ℕ) → Type 0
IsPartingTable items e elements None = IsBadlyDivided items e elements ⊎ (ListEmptyRange elements ⊎ ((base : Sort) → Resolves items e base → ⊥))
IsPartingTable items e elements (Some table) = (base : Sort) × Resolves items e base × Splits items base elements × IsPartTable items base elements table

-- the sort of an expression, or none where some fault stands
abbrev pub IsSortEntry : List Declaration → SortExpr → Option Sort → Type 0
IsSortEntry items e None = (f : Fault) × Stands items f
IsSortEntry items e (Some sort) = Resolves items e sort

-- the sort of an expression, or none where it or the declarations have a fault
abbrev pub IsSortEntryIn : List Declaration → SortExpr → Option Sort → Type 0
IsSortEntryIn items e None = (f : Fault) × (StandsInSort items e f ⊎ StandsBesides items f)
IsSortEntryIn items e (Some sort) = Resolves items e sort

-- the table of a partition, or none where some fault stands
abbrev pub IsTableEntry : List Declaration → SortExpr → List PartElement → Option (List ℕ) → Type 0
IsTableEntry items e elements None = (f : Fault) × Stands items f
IsTableEntry items e elements (Some table) = (base : Sort) × Resolves items e base × Splits items base elements × IsPartTable items base elements table

-- a partition before this place is a bad one, and this is its fault
abbrev pub IsBadBefore : List Declaration → ℕ → Fault → Type 0
IsBadBefore items place f = (k : ℕ) × (d : Declaration) × (k < place) × (slice_get items k ≡ Some d) × IsBadIn items d f

-- the faults that are known once the declarations before this place are settled
abbrev pub IsKnown : List Declaration → ℕ → Fault → Type 0
IsKnown items place f = StandsBesides items f ⊎ IsBadBefore items place f

-- what is settled of the declarations before this place
pub record AreSettled (items : List Declaration) (named : List (Option Sort)) (place : ℕ) (sorts : List Kept) (tables : List (Option (List ℕ))) : Type 0 where
  pub sorts_to : length sorts ≡ place
  pub tables_to : length tables ≡ place
  pub each : (k : ℕ) (d : Declaration) (e : SortExpr) → k < place → slice_get items k ≡ Some d → asked_of d ≡ Some e → (o : Kept) × (slice_get sorts k ≡ Some o) × IsSortEntry items e (sort_of_kept named o)
  pub split : (k : ℕ) (d : Declaration) (e : SortExpr) → k < place → slice_get items k ≡ Some d → base_of d ≡ Some e → (o : Option (List ℕ)) × (slice_get tables k ≡ Some o) × IsTableEntry items e (elements_of d) o
