-- Sorts that name enumerations and partitions of these declarations only: what is asked of a sort that is made by hand.
use Rattle.std.specs.Prelude.{◌≡◌, List, Bool, true, false, Option, Some, None}
use Rattle.std.specs.List.{slice_get, list_all}
use Rattle.pn_syntax.specs.declared.declaration.Declaration.{Declaration}
use Rattle.pn_syntax.specs.declared.declaration.Declaration.TheVariants as declarations
use Rattle.pn_syntax.specs.declared.declaration.SortBody.TheVariants as bodies
use Rattle.pn_values.specs.declared.sort.Sort.{Sort, fold-Sort}
use Rattle.pn_values.specs.declared.sort.Sort.TheOpen as layer

-- a declaration of an enumeration
abbrev pub is_enumeration : Declaration → Bool
is_enumeration (declarations.Named id name (bodies.Plain e) at) = false
is_enumeration (declarations.Named id name (bodies.Finite constants) at) = true
is_enumeration (declarations.Named id name (bodies.Cyclic constants) at) = true
is_enumeration (declarations.Variable id name sort at) = false
is_enumeration (declarations.Partition id name sort elements at) = false

-- a partition
abbrev pub is_partition : Declaration → Bool
is_partition (declarations.Named id name body at) = false
is_partition (declarations.Variable id name sort at) = false
is_partition (declarations.Partition id name sort elements at) = true

-- there is a declaration, and it passes the test
abbrev pub is_such : (Declaration → Bool) → Option Declaration → Bool
is_such test None = false
is_such test (Some d) = test d

-- one sort, where it is known of its parts
abbrev pub names_declared_layer : List Declaration → layer.Sort-F Bool → Bool
names_declared_layer items layer.Dot = true
names_declared_layer items layer.Bool = true
names_declared_layer items (layer.Enumeration place) = is_such is_enumeration (slice_get items place)
names_declared_layer items (layer.Partition place) = is_such is_partition (slice_get items place)
names_declared_layer items (layer.Range start end) = true
names_declared_layer items (layer.Product parts) = list_all (λ part. part) parts
names_declared_layer items layer.Integer = true
names_declared_layer items layer.Natural = true
names_declared_layer items layer.Positive = true
names_declared_layer items layer.Text = true
names_declared_layer items (layer.List part) = part

-- whether each enumeration in the sort is one of these declarations, and each partition too
abbrev pub names_declared : List Declaration → Sort → Bool
names_declared items = fold-Sort Bool (names_declared_layer items)

-- the sort names enumerations and partitions of these declarations only
abbrev pub NamesDeclared : List Declaration → Sort → Type 0
NamesDeclared items s = names_declared items s ≡ true
