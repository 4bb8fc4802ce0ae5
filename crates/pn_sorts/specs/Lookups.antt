-- What the declarations tell of variables, constants, enumerations and partitions: ISO/IEC 15909-2, declarations.
use Rattle.std.specs.Prelude.{◌≡◌, ℕ, Bool, true, false, List, Option, None, Some}
use Rattle.std.specs.List.{slice_get}
use Rattle.std.specs.Option.{option_and_then}
use Rattle.pn_syntax.specs.declared.declaration.Declaration.{Declaration}
use Rattle.pn_syntax.specs.declared.declaration.Declaration.TheVariants as declarations
use Rattle.pn_syntax.specs.declared.declaration.PartElement.{PartElement}
use Rattle.pn_syntax.specs.declared.declaration.SortBody.TheVariants as bodies
use Rattle.pn_values.specs.declared.constant_ref.ConstantRef.{ConstantRef}
use Rattle.pn_values.specs.declared.sort.Sort.{Sort}
use Rattle.pn_values.specs.declared.sort.Sort.TheVariants as sorts
use Rattle.pn_syntax.specs.declared.sort_expr.SortExpr.{SortExpr}
use Rattle.pn_values.specs.declared.value.Value.{Value}
use Rattle.pn_values.specs.declared.value.Value.TheVariants as values
use Rattle.pn_names.specs.Names.{IsConstant, Variable, variables_of}
use Rattle.pn_partitions.specs.Partitions.{Lists}
use Rattle.pn_resolve.specs.Meaning.{Resolves}
use Rattle.pn_resolve.specs.Standing.{base_of, elements_of}

-- the sort of the variable of this number, as it is declared
abbrev pub IsVariableSort : List Declaration → ℕ → Sort → Type 0
IsVariableSort items v sort = (x : Variable) × (slice_get (variables_of items) v ≡ Some x) × Resolves items x.sort sort

abbrev pub sort_at : ℕ → Declaration → Option Sort
sort_at place (declarations.Named id name (bodies.Plain e) at) = None
sort_at place (declarations.Named id name (bodies.Finite constants) at) = Some (sorts.Enumeration place)
sort_at place (declarations.Named id name (bodies.Cyclic constants) at) = Some (sorts.Enumeration place)
sort_at place (declarations.Variable id name sort at) = None
sort_at place (declarations.Partition id name sort elements at) = Some (sorts.Partition place)

-- the enumeration or partition that declares a constant
abbrev pub sort_of_constant : List Declaration → ConstantRef → Option Sort
sort_of_constant items c = option_and_then (sort_at c.declaration) (slice_get items c.declaration)

-- the value is a constant of the declaration at this place, which is an enumeration or partition that has this sort
pub record IsDeclaredConstant (items : List Declaration) (place : ℕ) (sort : Sort) (value : Value) : Type 0 where
  pub index : ℕ
  pub is : value ≡ values.Const index
  pub declared : IsConstant items (record { declaration = place; index = index })
  pub of_sort : sort_of_constant items (record { declaration = place; index = index }) ≡ Some sort

-- the base sort of the partition at this place, as it is written
abbrev pub base_expr : List Declaration → ℕ → Option SortExpr
base_expr items place = option_and_then base_of (slice_get items place)

-- the base sort of the partition at this place
abbrev pub IsBaseSort : List Declaration → ℕ → Sort → Type 0
IsBaseSort items place sort = (e : SortExpr) × (base_expr items place ≡ Some e) × Resolves items e sort

-- the element of this number lists the value, in the partition at this place
abbrev pub IsPartOf : List Declaration → ℕ → Value → ℕ → Type 0
IsPartOf items place value number =
    (base : Sort) × (element : PartElement) × IsBaseSort items place base × (option_and_then (λ d. slice_get (elements_of d) number) (slice_get items place) ≡ Some element) × Lists items base element value

abbrev pub is_cyclic_declaration : Declaration → Bool
is_cyclic_declaration (declarations.Named id name (bodies.Plain e) at) = false
is_cyclic_declaration (declarations.Named id name (bodies.Finite constants) at) = false
is_cyclic_declaration (declarations.Named id name (bodies.Cyclic constants) at) = true
is_cyclic_declaration (declarations.Variable id name sort at) = false
is_cyclic_declaration (declarations.Partition id name sort elements at) = false

abbrev pub is_cyclic_in : Option Declaration → Bool
is_cyclic_in None = false
is_cyclic_in (Some d) = is_cyclic_declaration d

-- whether the declaration at this place is a cyclic enumeration
abbrev pub is_cyclic : List Declaration → ℕ → Bool
is_cyclic items place = is_cyclic_in (slice_get items place)
