-- Which faults of the phase sorts stand: ISO/IEC 15909-2, sorts and their declarations, in this project's profile.
use Rattle.std.specs.Prelude.{◌≡◌, ◌<◌, ◌⊎◌, ℕ, ℤ, List, [], int_lt, Bool, true, false, codes, Option, None, Some, IsTrue}
use Rattle.std.specs.List.{slice_get, Contains}
use Rattle.pn_faults.specs.declared.fault.Fault.{Fault}
use Rattle.pn_faults.specs.Order.{fault_at}
use Rattle.pn_faults.specs.declared.reason.Reason.TheVariants as reasons
use Rattle.pn_syntax.specs.declared.declaration.Declaration.{Declaration}
use Rattle.pn_syntax.specs.declared.declaration.Declaration.TheVariants as declarations
use Rattle.pn_syntax.specs.declared.declaration.ConstExpr.{ConstExpr}
use Rattle.pn_syntax.specs.declared.declaration.ConstExpr.TheVariants as exprs
use Rattle.pn_syntax.specs.declared.declaration.SortBody.TheVariants as bodies
use Rattle.pn_syntax.specs.declared.declaration.PartElement.{PartElement}
use Rattle.pn_values.specs.declared.sort.Sort.{Sort}
use Rattle.pn_syntax.specs.declared.sort_expr.SortExpr.{SortExpr}
use Rattle.pn_syntax.specs.declared.sort_expr.SortNode.TheVariants as nodes
use Rattle.pn_syntax.specs.declared.sort_expr.SortNode.TheOpen as layer
use Rattle.pn_syntax.specs.declared.sort_expr.SortNode.TheViews.{out-SortNode}
use Rattle.pn_names.specs.Names.{id_of, at_of, sort_named}
use Rattle.pn_resolve.specs.Meaning.{Resolves}
use Rattle.pn_values.specs.Sizes.{depth_of, nodes_of}
use Rattle.pn_resolve.specs.declared.TheConstants.{MAX_DEPTH, MAX_NODES}

-- the second is the first expression or an expression in it
pub data IsSortPart : SortExpr → SortExpr → Type 0 where
  itself : (e x : SortExpr) → x ≡ e → IsSortPart e x
  product : (e x p : SortExpr) (parts : List SortExpr) → e.node ≡ nodes.Product parts → Contains parts p → IsSortPart p x → IsSortPart e x
  list : (e x p : SortExpr) → e.node ≡ nodes.List p → IsSortPart p x → IsSortPart e x

-- the name of a sort's element
abbrev pub layer_name : {A B : Type 0} → layer.SortNode-F A B → List ℕ
layer_name layer.Dot = codes "dot"
layer_name layer.Bool = codes "bool"
layer_name (layer.Range start end) = codes "finiteintrange"
layer_name (layer.Product parts) = codes "productsort"
layer_name (layer.User name) = codes "usersort"
layer_name layer.Integer = codes "integer"
layer_name layer.Natural = codes "natural"
layer_name layer.Positive = codes "positive"
layer_name layer.Text = codes "string"
layer_name (layer.List part) = codes "list"

abbrev pub element_name : SortExpr → List ℕ
element_name e = layer_name (out-SortNode e.node)

-- a sort passes a limit
abbrev pub IsBig : Sort → Type 0
IsBig s = (MAX_DEPTH < depth_of s) ⊎ (MAX_NODES < nodes_of s)

-- an expression has a sort, which is too big
abbrev pub IsTooBig : List Declaration → SortExpr → Type 0
IsTooBig items e = (s : Sort) × Resolves items e s × IsBig s

-- the element of a sort has this fault
pub data StandsAtSort (items : List Declaration) : SortExpr → Fault → Type 0 where
  unknown_sort : (e : SortExpr) (f : Fault) (name : List ℕ) → e.node ≡ nodes.User name → sort_named items name ≡ None → f ≡ fault_at reasons.UnknownSort e.at name → StandsAtSort items e f
  sort_too_big : (e : SortExpr) (f : Fault) → IsTooBig items e → f ≡ fault_at reasons.SortTooBig e.at (element_name e) → StandsAtSort items e f
  empty_range : (e : SortExpr) (f : Fault) (start end : ℤ) → e.node ≡ nodes.Range start end → int_lt end start ≡ true → f ≡ fault_at reasons.EmptyRange e.at (codes "finiteintrange") → StandsAtSort items e f

-- the expression or an expression in it has this fault
abbrev pub StandsInSort : List Declaration → SortExpr → Fault → Type 0
StandsInSort items e f = (x : SortExpr) × IsSortPart e x × StandsAtSort items x f

-- the expression is the name of the declaration at this place
abbrev pub IsNameOf : List Declaration → ℕ → SortExpr → Type 0
IsNameOf items place e = (name : List ℕ) × (e.node ≡ nodes.User name) × (sort_named items name ≡ Some place)

-- the sort expression of a declaration
abbrev pub expr_of : Declaration → Option SortExpr
expr_of (declarations.Named id name (bodies.Plain e) at) = Some e
expr_of (declarations.Named id name (bodies.Finite constants) at) = None
expr_of (declarations.Named id name (bodies.Cyclic constants) at) = None
expr_of (declarations.Variable id name sort at) = Some sort
expr_of (declarations.Partition id name sort elements at) = Some sort

-- the elements of a partition
abbrev pub elements_of : Declaration → List PartElement
elements_of (declarations.Named id name body at) = []
elements_of (declarations.Variable id name sort at) = []
elements_of (declarations.Partition id name sort elements at) = elements

-- the sort of the declaration at the first place names the declaration at the second
pub record NamesPlace (items : List Declaration) (from to : ℕ) : Type 0 where
  pub declaration : Declaration
  pub stands : slice_get items from ≡ Some declaration
  pub whole : SortExpr
  pub is_sort : expr_of declaration ≡ Some whole
  pub part : SortExpr
  pub is_part : IsSortPart whole part
  pub name : List ℕ
  pub is_user : part.node ≡ nodes.User name
  pub is_name : sort_named items name ≡ Some to

-- a `namedsort`
abbrev pub is_named : Declaration → Bool
is_named (declarations.Named id name body at) = true
is_named (declarations.Variable id name sort at) = false
is_named (declarations.Partition id name sort elements at) = false

-- a `namedsort` stands at this place
abbrev pub IsNamedSort : List Declaration → ℕ → Type 0
IsNamedSort items place = (d : Declaration) × (slice_get items place ≡ Some d) × IsTrue (is_named d)

-- the sort of one declaration leads to another, directly or through `namedsort`s
pub data LeadsTo (items : List Declaration) : ℕ → ℕ → Type 0 where
  directly : (from to : ℕ) → NamesPlace items from to → LeadsTo items from to
  through : (from via to : ℕ) → NamesPlace items from via → IsNamedSort items via → LeadsTo items via to → LeadsTo items from to

-- the range of a constant, where it has one, is empty
abbrev pub HasEmptyRange : ConstExpr → Type 0
HasEmptyRange (exprs.Named id at) = ⊥
HasEmptyRange (exprs.Range value start end at) = int_lt end start ≡ true

-- the offset of a constant
abbrev pub at_of_constant : ConstExpr → ℕ
at_of_constant (exprs.Named id at) = at
at_of_constant (exprs.Range value start end at) = at

-- a constant that an element of the declaration lists
abbrev pub IsListed : Declaration → ConstExpr → Type 0
IsListed d c = (e : PartElement) × Contains (elements_of d) e × Contains e.values c

-- the base sort of a partition
abbrev pub base_of : Declaration → Option SortExpr
base_of (declarations.Named id name body at) = None
base_of (declarations.Variable id name sort at) = None
base_of (declarations.Partition id name sort elements at) = Some sort

-- the declarations have this fault, which is not one of how a partition splits its base sort
pub data StandsBesides (items : List Declaration) : Fault → Type 0 where
  in_sort : (f : Fault) (d : Declaration) (e : SortExpr) → Contains items d → expr_of d ≡ Some e → StandsInSort items e f → StandsBesides items f
  sort_cycle : (f : Fault) (place : ℕ) (d : Declaration) → slice_get items place ≡ Some d → LeadsTo items place place → f ≡ fault_at reasons.SortCycle (at_of d) (id_of d) → StandsBesides items f
  constant_range : (f : Fault) (d : Declaration) (c : ConstExpr) → Contains items d → IsListed d c → HasEmptyRange c → f ≡ fault_at reasons.EmptyRange (at_of_constant c) (codes "finiteintrange") → StandsBesides items f
