-- When a partition splits its base sort: ISO/IEC 15909-2, partitions.
use Rattle.std.specs.Prelude.{◌≡◌, ℕ, ℤ, List, Bool, true, false, ◌&&◌, ◌==◌, nat_le, int_le, map, Option, None, Some, is_some, length, if◌then◌else◌}
use Rattle.std.specs.List.{flat_map, list_all, slice_get, Contains}
use Rattle.std.specs.Option.{option_and_then}
use Rattle.std.specs.Ordering.{int_eq}
use Rattle.pn_syntax.specs.declared.declaration.Declaration.{Declaration}
use Rattle.pn_syntax.specs.declared.declaration.ConstExpr.{ConstExpr}
use Rattle.pn_syntax.specs.declared.declaration.ConstExpr.TheVariants as exprs
use Rattle.pn_values.specs.declared.constant_ref.ConstantRef.{ConstantRef}
use Rattle.pn_syntax.specs.declared.declaration.PartElement.{PartElement}
use Rattle.pn_values.specs.declared.sort.Sort.{Sort}
use Rattle.pn_values.specs.declared.sort.Sort.TheOpen as layer
use Rattle.pn_values.specs.declared.sort.Sort.TheViews.{out-Sort}
use Rattle.pn_values.specs.declared.value.Value.{Value}
use Rattle.pn_values.specs.declared.value.Value.TheVariants as values
use Rattle.pn_carriers.specs.Carriers.{count_between, carrier}
use Rattle.pn_carriers.specs.Members.{IsMember}
use Rattle.pn_names.specs.Names.{constant_named, widths_of}

-- the same, by the layer of the sort
abbrev pub is_splittable_layer : layer.Sort-F Sort → Bool
is_splittable_layer (layer.Enumeration place) = true
is_splittable_layer (layer.Range start end) = nat_le (count_between start end) 1048576
is_splittable_layer layer.Dot = false
is_splittable_layer layer.Bool = false
is_splittable_layer (layer.Partition place) = false
is_splittable_layer (layer.Product parts) = false
is_splittable_layer layer.Integer = false
is_splittable_layer layer.Natural = false
is_splittable_layer layer.Positive = false
is_splittable_layer layer.Text = false
is_splittable_layer (layer.List part) = false

-- a sort that a partition may split: an enumeration of any size, or a range of at most 2^20 values
abbrev pub is_splittable : Sort → Bool
is_splittable s = is_splittable_layer (out-Sort s)

-- the value of a constant, where it is one of the enumeration at this place
abbrev pub value_in : ℕ → ConstantRef → Option Value
value_in place c = if c.declaration == place then Some (values.Const c.index) else None

-- the value that is listed, where it is a constant of this enumeration
abbrev pub enumeration_value : List Declaration → ℕ → ConstExpr → Option Value
enumeration_value items place (exprs.Named id at) = option_and_then (value_in place) (constant_named items id)
enumeration_value items place (exprs.Range value start end at) = None

-- the value of a constant of a range, where that is this range and has it
abbrev pub range_value : ℤ → ℤ → ConstExpr → Option Value
range_value first last (exprs.Named id at) = None
range_value first last (exprs.Range value start end at) =
    if int_eq start first && (int_eq end last && (int_le first value && int_le value last)) then Some (values.Int value) else None

-- the value that is listed, by the layer of the base sort
abbrev pub value_layer : List Declaration → layer.Sort-F Sort → ConstExpr → Option Value
value_layer items (layer.Enumeration place) c = enumeration_value items place c
value_layer items (layer.Range first last) c = range_value first last c
value_layer items layer.Dot c = None
value_layer items layer.Bool c = None
value_layer items (layer.Partition place) c = None
value_layer items (layer.Product parts) c = None
value_layer items layer.Integer c = None
value_layer items layer.Natural c = None
value_layer items layer.Positive c = None
value_layer items layer.Text c = None
value_layer items (layer.List part) c = None

-- the value that is listed, where it is one of the base sort
abbrev pub listed_value : List Declaration → Sort → ConstExpr → Option Value
listed_value items base c = value_layer items (out-Sort base) c

-- the values that an element lists
abbrev pub values_in : List Declaration → Sort → PartElement → List (Option Value)
values_in items base e = map (listed_value items base) e.values

-- the values that all elements list, in order
abbrev pub all_values : List Declaration → Sort → List PartElement → List (Option Value)
all_values items base elements = flat_map (values_in items base) elements

-- an element lists this value
abbrev pub Lists : List Declaration → Sort → PartElement → Value → Type 0
Lists items base e v = Contains (values_in items base e) (Some v)

-- this value stands at one place of the list and at no other
abbrev pub IsOnce : {A : Type 0} → List (Option A) → A → Type 0
IsOnce listed v = (i : ℕ) × (slice_get listed i ≡ Some (Some v)) × ((j : ℕ) → slice_get listed j ≡ Some (Some v) → j ≡ i)

-- the elements split the base sort: it is one that can be split, only values of it are listed, and each of them once
pub record Splits (items : List Declaration) (base : Sort) (elements : List PartElement) : Type 0 where
  pub splittable : is_splittable base ≡ true
  pub values : list_all is_some (all_values items base elements) ≡ true
  pub once : (v : Value) → IsMember (widths_of items) v base → IsOnce (all_values items base elements) v

-- the element that a table of numbers has at this place
abbrev pub element_at : List PartElement → List ℕ → ℕ → Option PartElement
element_at elements table k = option_and_then (slice_get elements) (slice_get table k)

-- the table has for each value of the base sort, in order, the number of an element that lists it
pub record IsPartTable (items : List Declaration) (base : Sort) (elements : List PartElement) (table : List ℕ) : Type 0 where
  pub size : length table ≡ length (carrier (widths_of items) base)
  pub lists : (k : ℕ) (v : Value) → slice_get (carrier (widths_of items) base) k ≡ Some v → (e : PartElement) × (element_at elements table k ≡ Some e) × Lists items base e v
