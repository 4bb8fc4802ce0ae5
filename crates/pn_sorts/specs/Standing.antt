-- Which faults of sorts stand in declarations, those of partitions among them: ISO/IEC 15909-2, sorts and partitions.
use Rattle.std.specs.Prelude.{◌≡◌, List, Some}
use Rattle.std.specs.List.{Contains}
use Rattle.pn_faults.specs.declared.fault.Fault.{Fault}
use Rattle.pn_faults.specs.Order.{fault_at}
use Rattle.pn_faults.specs.declared.reason.Reason.TheVariants as reasons
use Rattle.pn_syntax.specs.declared.declaration.Declaration.{Declaration}
use Rattle.pn_syntax.specs.declared.declaration.ConstExpr.{ConstExpr}
use Rattle.pn_syntax.specs.declared.sort_expr.SortExpr.{SortExpr}
use Rattle.pn_values.specs.declared.sort.Sort.{Sort}
use Rattle.pn_names.specs.Names.{id_of, at_of}
use Rattle.pn_partitions.specs.Partitions.{Splits}
use Rattle.pn_resolve.specs.Meaning.{Resolves}
use Rattle.pn_resolve.specs.Standing.{HasEmptyRange, IsListed, StandsBesides, base_of, elements_of}

-- a partition whose base sort and ranges have sorts, and which does not split its base sort
pub record IsBadPartition (items : List Declaration) (d : Declaration) : Type 0 where
  pub expr : SortExpr
  pub is_base : base_of d ≡ Some expr
  pub base : Sort
  pub resolves : Resolves items expr base
  pub ranges : (c : ConstExpr) → IsListed d c → HasEmptyRange c → ⊥
  pub is_bad : Splits items base (elements_of d) → ⊥

-- the declarations have this fault
pub data Stands (items : List Declaration) : Fault → Type 0 where
  besides : (f : Fault) → StandsBesides items f → Stands items f
  bad_partition : (f : Fault) (d : Declaration) → Contains items d → IsBadPartition items d → f ≡ fault_at reasons.BadPartition (at_of d) (id_of d) → Stands items f

-- the declarations have no fault
abbrev pub IsFaultless : List Declaration → Type 0
IsFaultless items = (f : Fault) → Stands items f → ⊥
