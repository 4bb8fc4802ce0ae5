-- What the ids of declarations name: ISO/IEC 15909-2, declarations of sorts, variables and partitions.
use Rattle.std.specs.Prelude.{◌≡◌, ◌<◌, ◌^◌, ℕ, suc, List, [], ◌∷◌, ◌++◌, map, length, Option, None, Some, IsSome}
use Rattle.std.specs.List.{slice_get, AllByRecursion}
use Rattle.std.specs.Option.{option_and_then}
use Rattle.pn_syntax.specs.declared.declaration.Declaration.{Declaration}
use Rattle.pn_syntax.specs.declared.declaration.Declaration.TheVariants as declarations
use Rattle.pn_syntax.specs.declared.declaration.SortBody.{SortBody}
use Rattle.pn_syntax.specs.declared.declaration.SortBody.TheVariants as bodies
use Rattle.pn_syntax.specs.declared.declaration.Constant.{Constant}
use Rattle.pn_syntax.specs.declared.declaration.PartElement.{PartElement}
use Rattle.pn_values.specs.declared.constant_ref.ConstantRef.{ConstantRef}
use Rattle.pn_syntax.specs.declared.sort_expr.SortExpr.{SortExpr}
use Rattle.pn_ids.specs.Names.{named_in}
use Rattle.pn_names.specs.declared.Declared.{Declared}
use Rattle.pn_names.specs.declared.Declared.TheVariants as declared

-- the id of a declaration
abbrev pub id_of : Declaration → List ℕ
id_of (declarations.Named id name body at) = id
id_of (declarations.Variable id name sort at) = id
id_of (declarations.Partition id name sort elements at) = id

-- the offset of a declaration
abbrev pub at_of : Declaration → ℕ
at_of (declarations.Named id name body at) = at
at_of (declarations.Variable id name sort at) = at
at_of (declarations.Partition id name sort elements at) = at

-- the constants of an enumeration
abbrev pub constants_of : SortBody → List Constant
constants_of (bodies.Plain sort) = []
constants_of (bodies.Finite constants) = constants
constants_of (bodies.Cyclic constants) = constants

-- the id of a constant
abbrev pub constant_id : Constant → List ℕ
constant_id c = c.id

-- the id of an element of a partition
abbrev pub element_id : PartElement → List ℕ
element_id e = e.id

-- the ids of the constants of an enumeration, and of the elements of a partition
abbrev pub constant_ids : Declaration → List (List ℕ)
constant_ids (declarations.Named id name body at) = map constant_id (constants_of body)
constant_ids (declarations.Variable id name sort at) = []
constant_ids (declarations.Partition id name sort elements at) = map element_id elements

-- how many constants or elements each declaration has
abbrev pub widths_of : List Declaration → List ℕ
widths_of = map (λ d. length (constant_ids d))

-- the ids of constants from this number on, each with its declaration and its place there
abbrev pub numbered : ℕ → ℕ → List (List ℕ) → List (List ℕ × Declared)
numbered place index [] = []
numbered place index (id ∷ ids) = (id, declared.Constant (record { declaration = place; index = index })) ∷ numbered place (suc index) ids

-- what the id of a declaration names; its place is the first number, the number of variables before it the second
abbrev pub own_name : ℕ → ℕ → Declaration → Declared
own_name place before (declarations.Named id name body at) = declared.Named place
own_name place before (declarations.Variable id name sort at) = declared.Variable before
own_name place before (declarations.Partition id name sort elements at) = declared.Partition place

-- how many variables there are, with this declaration, after so many before it
abbrev pub with_variable : ℕ → Declaration → ℕ
with_variable before (declarations.Named id name body at) = before
with_variable before (declarations.Variable id name sort at) = suc before
with_variable before (declarations.Partition id name sort elements at) = before

-- the ids of one declaration, with what they name
abbrev pub names_in : ℕ → ℕ → Declaration → List (List ℕ × Declared)
names_in place before d = (id_of d, own_name place before d) ∷ numbered place 0 (constant_ids d)

-- the ids of declarations from this place on, after so many variables
abbrev pub names_from : ℕ → ℕ → List Declaration → List (List ℕ × Declared)
names_from place before [] = []
names_from place before (d ∷ ds) = names_in place before d ++ names_from (suc place) (with_variable before d) ds

-- all ids of the declarations in the order of the document, with what they name
abbrev pub names_of : List Declaration → List (List ℕ × Declared)
names_of = names_from 0 0

-- what an id of these declarations names
abbrev pub meaning_of : List Declaration → List ℕ → Option Declared
meaning_of items id = named_in (names_of items) id

-- the place of a `namedsort` or a `partition`
abbrev pub sort_place : Declared → Option ℕ
sort_place (declared.Named place) = Some place
sort_place (declared.Partition place) = Some place
sort_place (declared.Variable number) = None
sort_place (declared.Constant c) = None

-- the place of the `namedsort` or `partition` that a `usersort` names
abbrev pub sort_named : List Declaration → List ℕ → Option ℕ
sort_named items id = option_and_then sort_place (meaning_of items id)

-- the place of a `partition`
abbrev pub partition_place : Declared → Option ℕ
partition_place (declared.Named place) = None
partition_place (declared.Partition place) = Some place
partition_place (declared.Variable number) = None
partition_place (declared.Constant c) = None

-- the place of the partition of this id
abbrev pub partition_named : List Declaration → List ℕ → Option ℕ
partition_named items id = option_and_then partition_place (meaning_of items id)

-- the number of a variable
abbrev pub variable_number : Declared → Option ℕ
variable_number (declared.Named place) = None
variable_number (declared.Partition place) = None
variable_number (declared.Variable number) = Some number
variable_number (declared.Constant c) = None

-- the number of the variable of this id
abbrev pub variable_named : List Declaration → List ℕ → Option ℕ
variable_named items id = option_and_then variable_number (meaning_of items id)

-- the constant or partition element that an id names
abbrev pub constant_ref : Declared → Option ConstantRef
constant_ref (declared.Named place) = None
constant_ref (declared.Partition place) = None
constant_ref (declared.Variable number) = None
constant_ref (declared.Constant c) = Some c

-- the constant or partition element of this id
abbrev pub constant_named : List Declaration → List ℕ → Option ConstantRef
constant_named items id = option_and_then constant_ref (meaning_of items id)

-- a variable as it is declared
pub record Variable : Type 0 where
  pub id : List ℕ
  pub sort : SortExpr

-- the id of a variable
abbrev pub variable_name : Variable → List ℕ
variable_name v = v.id

-- the variable that a declaration declares, if it does
abbrev pub variables_in : Declaration → List Variable
variables_in (declarations.Named id name body at) = []
variables_in (declarations.Variable id name sort at) = record { id = id; sort = sort } ∷ []
variables_in (declarations.Partition id name sort elements at) = []

-- the variables in the order of their declarations
abbrev pub variables_of : List Declaration → List Variable
variables_of [] = []
variables_of (d ∷ ds) = variables_in d ++ variables_of ds

-- the variable that a declaration declares
abbrev pub variable_of : Declaration → Option Variable
variable_of (declarations.Named id name body at) = None
variable_of (declarations.Variable id name sort at) = Some (record { id = id; sort = sort })
variable_of (declarations.Partition id name sort elements at) = None

-- the variable that the declaration at this place declares
abbrev pub variable_at : List Declaration → ℕ → Option Variable
variable_at items place = option_and_then variable_of (slice_get items place)

-- its place, where it declares a variable
abbrev pub place_in : ℕ → Declaration → List ℕ
place_in place (declarations.Named id name body at) = []
place_in place (declarations.Variable id name sort at) = place ∷ []
place_in place (declarations.Partition id name sort elements at) = []

-- the places of the variables among declarations from this place on
abbrev pub variable_places_from : ℕ → List Declaration → List ℕ
variable_places_from place [] = []
variable_places_from place (d ∷ ds) = place_in place d ++ variable_places_from (suc place) ds

-- the places of the variables' declarations, in order
abbrev pub variable_places_of : List Declaration → List ℕ
variable_places_of = variable_places_from 0

-- the id of a constant or partition element, where there is such a one
abbrev pub id_of_constant : List Declaration → ConstantRef → Option (List ℕ)
id_of_constant items c = option_and_then (λ d. slice_get (constant_ids d) c.index) (slice_get items c.declaration)

-- one of the declarations declares this id, and as this
abbrev pub Declares : List Declaration → List ℕ → Declared → Type 0
Declares items id (declared.Named place) = (name : Option (List ℕ)) × (body : SortBody) × (at : ℕ) × (slice_get items place ≡ Some (declarations.Named id name body at))
Declares items id (declared.Partition place) =
    (name : Option (List ℕ)) × (sort : SortExpr) × (elements : List PartElement) × (at : ℕ) × (slice_get items place ≡ Some (declarations.Partition id name sort elements at))
Declares items id (declared.Variable number) = (sort : SortExpr) × (slice_get (variables_of items) number ≡ Some (record { id = id; sort = sort }))
Declares items id (declared.Constant c) = id_of_constant items c ≡ Some id

-- there is such a constant or partition element
abbrev pub IsConstant : List Declaration → ConstantRef → Type 0
IsConstant items c = IsSome (id_of_constant items c)

-- places and numbers fit in 32 bits
pub record AreNumbered (items : List Declaration) : Type 0 where
  pub declarations : length items < 2 ^ 32
  pub constants : AllByRecursion (λ d. length (constant_ids d) < 2 ^ 32) items
