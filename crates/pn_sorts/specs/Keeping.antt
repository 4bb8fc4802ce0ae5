-- What the parts of a `Decls` keep.
use Rattle.std.specs.Prelude.{◌≡◌, ◌⊎◌, ℕ, List, Option, Some}
use Rattle.std.specs.List.{slice_get}
use Rattle.pn_faults.specs.declared.fault.Fault.{Fault}
use Rattle.pn_faults.specs.Standing.{IsLeastOf}
use Rattle.pn_syntax.specs.declared.declaration.Declaration.{Declaration}
use Rattle.pn_values.specs.declared.sort.Sort.{Sort}
use Rattle.pn_syntax.specs.declared.sort_expr.SortExpr.{SortExpr}
use Rattle.pn_names.specs.declared.Declared.{Declared}
use Rattle.pn_names.specs.Names.{AreNumbered, names_of, widths_of, variable_places_of}
use Rattle.pn_partitions.specs.Partitions.{IsPartTable, Splits}
use Rattle.pn_resolve.specs.Meaning.{Resolves}
use Rattle.pn_resolve.specs.Meaning.{HasNoSort}
use Rattle.pn_resolve.specs.Standing.{StandsInSort, base_of, elements_of}
use Rattle.pn_sorts.specs.Kept.{asked_of, sort_kept}
use Rattle.pn_sorts.specs.declared.kept.Kept.{Kept}
use Rattle.pn_sorts.specs.Standing.{IsFaultless, Stands}
use Rattle.pn_resolve.specs.Tables.{Entries, IsTable}

-- the tables of names, of widths and of variables are those of the declarations
pub record IsIndexed (items : List Declaration) (index : List (List ℕ × Declared)) (widths variables : List ℕ) : Type 0 where
  pub numbered : AreNumbered items
  pub names : index ≡ names_of items
  pub counts : widths ≡ widths_of items
  pub places : variables ≡ variable_places_of items

-- the sort of the declaration at this place is kept
pub record HasSort (items : List Declaration) (named : List (Option Sort)) (sorts : List Kept) (place : ℕ) (e : SortExpr) : Type 0 where
  pub sort : Sort
  pub stands : sort_kept named sorts place ≡ Some sort
  pub resolves : Resolves items e sort

-- the table of the partition at this place stands in the list
pub record HasTable (items : List Declaration) (tables : List (Option (List ℕ))) (place : ℕ) (d : Declaration) (base : Sort) : Type 0 where
  pub table : List ℕ
  pub stands : slice_get tables place ≡ Some (Some table)
  pub splits : Splits items base (elements_of d)
  pub parts : IsPartTable items base (elements_of d) table

-- where the declarations have no fault, the sorts of variables, the base sorts of partitions and the table of each are there
pub record IsResolved (items : List Declaration) (named : List (Option Sort)) (sorts : List Kept) (tables : List (Option (List ℕ))) : Type 0 where
  pub each : (place : ℕ) (d : Declaration) (e : SortExpr) → IsFaultless items → slice_get items place ≡ Some d → asked_of d ≡ Some e → HasSort items named sorts place e
  pub split : (place : ℕ) (d : Declaration) (e : SortExpr) (base : Sort) → IsFaultless items → slice_get items place ≡ Some d → base_of d ≡ Some e → Resolves items e base → HasTable items tables place d base

-- what the parts keep
pub record PartsKeep (items : List Declaration) (index : List (List ℕ × Declared)) (table : Entries) (widths variables : List ℕ) (sorts : List Kept) (tables : List (Option (List ℕ))) (fault : Option Fault) : Type 0 where
  pub indexed : IsIndexed items index widths variables
  pub entries : IsTable items index table
  pub resolved : IsResolved items table.sorts sorts tables
  pub least : IsLeastOf (Stands items) fault

-- the fault for which an expression is refused: the least one in it; or, where none is in it and it has no sort, the least one of the declarations
abbrev pub IsRefusedFor : List Declaration → SortExpr → Fault → Type 0
IsRefusedFor items e f = IsLeastOf (StandsInSort items e) (Some f) ⊎ (HasNoSort items e × ((g : Fault) → StandsInSort items e g → ⊥) × IsLeastOf (Stands items) (Some f))
