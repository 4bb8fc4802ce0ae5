-- The table of a partition as it is filled, by the places of values among those of the base sort.
use Rattle.std.specs.Prelude.{◌≡◌, ◌<◌, ℕ, ℤ, ◌-ℤ◌, nat_abs, List, ◌++◌, true, ◌&&◌, ◌==◌, int_le, map, Option, None, Some, is_some, length, slice_index_or, if◌then◌else◌}
use Rattle.std.specs.List.{list_all, slice_get, Contains}
use Rattle.std.specs.Option.{option_and_then}
use Rattle.std.specs.Ordering.{int_eq}
use Rattle.pn_syntax.specs.declared.declaration.ConstExpr.{ConstExpr}
use Rattle.pn_syntax.specs.declared.declaration.ConstExpr.TheVariants as exprs
use Rattle.pn_values.specs.declared.constant_ref.ConstantRef.{ConstantRef}
use Rattle.pn_syntax.specs.declared.declaration.PartElement.{PartElement}
use Rattle.pn_values.specs.declared.sort.Sort.{Sort}
use Rattle.pn_values.specs.declared.sort.Sort.TheOpen as layer
use Rattle.pn_values.specs.declared.sort.Sort.TheViews.{out-Sort}
use Rattle.pn_names.specs.declared.Declared.{Declared}
use Rattle.pn_ids.specs.Names.{named_in}
use Rattle.pn_names.specs.Names.{constant_ref}
use Rattle.pn_partitions.specs.Partitions.{IsOnce}

-- the place of a constant, where it is one of this declaration
abbrev pub place_within : ℕ → ConstantRef → Option ℕ
place_within declaration c = if c.declaration == declaration then Some c.index else None

-- the place of a listed value in an enumeration, where it is one of its constants
abbrev pub enumeration_place : List (List ℕ × Declared) → ℕ → ConstExpr → Option ℕ
enumeration_place names declaration (exprs.Named id at) = option_and_then (place_within declaration) (option_and_then constant_ref (named_in names id))
enumeration_place names declaration (exprs.Range value start end at) = None

-- the place of a listed value in a range, where it names this range and lies in it
abbrev pub range_place : ℤ → ℤ → ConstExpr → Option ℕ
range_place first last (exprs.Named id at) = None
range_place first last (exprs.Range value start end at) =
    if int_eq start first && (int_eq end last && (int_le first value && int_le value last)) then Some (nat_abs (value -ℤ first)) else None

-- the same for each sort, by its layer
abbrev pub place_layer : List (List ℕ × Declared) → layer.Sort-F Sort → ConstExpr → Option ℕ
place_layer names (layer.Enumeration declaration) c = enumeration_place names declaration c
place_layer names (layer.Range first last) c = range_place first last c
place_layer names layer.Dot c = None
place_layer names layer.Bool c = None
place_layer names (layer.Partition declaration) c = None
place_layer names (layer.Product parts) c = None
place_layer names layer.Integer c = None
place_layer names layer.Natural c = None
place_layer names layer.Positive c = None
place_layer names layer.Text c = None
place_layer names (layer.List part) c = None

-- the place of a listed value among those of the base sort, where it is one of them
abbrev pub place_of : List (List ℕ × Declared) → Sort → ConstExpr → Option ℕ
place_of names base c = place_layer names (out-Sort base) c

-- the places of the values that an element lists
abbrev pub places_in : List (List ℕ × Declared) → Sort → PartElement → List (Option ℕ)
places_in names base e = map (place_of names base) e.values

-- how many values an element lists
abbrev pub values_listed : PartElement → ℕ
values_listed e = length e.values

-- each number below the size stands in the list once, and nothing else stands there
pub record AreEachOnce (size : ℕ) (listed : List (Option ℕ)) : Type 0 where
  pub values : list_all is_some listed ≡ true
  pub once : (k : ℕ) → k < size → IsOnce listed k

-- the entry of the number k: none where it isn't listed, else the place of a list that has it, and it is listed once
abbrev pub IsEntry : List (List (Option ℕ)) → List (Option ℕ) → ℕ → Option ℕ → Type 0
IsEntry lists listed k None = Contains listed (Some k) → ⊥
IsEntry lists listed k (Some n) = IsOnce listed k × ((l : List (Option ℕ)) × (slice_get lists n ≡ Some l) × Contains l (Some k))

-- the table as it stands when these numbers were listed
pub record IsFilled (lists : List (List (Option ℕ))) (listed : List (Option ℕ)) (table : List (Option ℕ)) : Type 0 where
  pub values : list_all is_some listed ≡ true
  pub entries : (k : ℕ) → k < length table → IsEntry lists listed k (slice_index_or table k None)

-- whatever else is listed, this isn't each number once
abbrev pub IsSpoilt : ℕ → List (Option ℕ) → Type 0
IsSpoilt size listed = (more : List (Option ℕ)) → AreEachOnce size (listed ++ more) → ⊥
