-- The values of a finite sort, in order (ISO/IEC 15909-2, sorts of symmetric nets). Of a list of declarations only the widths are
-- known here: how many constants or elements each declaration has, by its place.
use Rattle.std.specs.Prelude.{ℕ, suc, Bool, true, false, List, [], ◌∷◌, map, ℤ, pos, ◌+ℤ◌, ◌-ℤ◌, nat_abs, int_le, slice_index, if◌then◌else◌}
use Rattle.std.specs.List.{flat_map, range_with_len, list_all}
use Rattle.pn_values.specs.declared.sort.Sort.{Sort}
use Rattle.pn_values.specs.declared.sort.Sort.TheOpen as sort_layer
use Rattle.pn_values.specs.declared.sort.Sort.TheFolds.{fold-Sort}
use Rattle.pn_values.specs.declared.value.Value.{Value}
use Rattle.pn_values.specs.declared.value.Value.TheVariants as values

-- whether a sort is finite, where it is known of its parts
abbrev pub is_finite_layer : sort_layer.Sort-F Bool → Bool
is_finite_layer sort_layer.Dot = true
is_finite_layer sort_layer.Bool = true
is_finite_layer (sort_layer.Enumeration n) = true
is_finite_layer (sort_layer.Partition n) = true
is_finite_layer (sort_layer.Range start end) = true
is_finite_layer (sort_layer.Product parts) = list_all (λ part. part) parts
is_finite_layer sort_layer.Integer = false
is_finite_layer sort_layer.Natural = false
is_finite_layer sort_layer.Positive = false
is_finite_layer sort_layer.Text = false
is_finite_layer (sort_layer.List item) = false

-- the numbers, texts and lists are infinite sorts, and a product is finite where all its parts are
abbrev pub is_finite : Sort → Bool
is_finite = fold-Sort Bool is_finite_layer

-- how many constants or elements a declaration has
abbrev pub width_of : List ℕ → ℕ → ℕ
width_of widths declaration = slice_index widths declaration

-- the constants of a declaration, in order
abbrev pub constants : ℕ → List Value
constants width = map values.Const (range_with_len 0 width)

-- how many whole numbers there are from `start` to `end`
abbrev pub count_between : ℤ → ℤ → ℕ
count_between start end = if int_le start end then suc (nat_abs (end -ℤ start)) else 0

-- the whole numbers from `start` to `end`, in order
abbrev pub numbers_between : ℤ → ℤ → List Value
numbers_between start end = map (λ k. values.Int (start +ℤ pos k)) (range_with_len 0 (count_between start end))

-- the lists that have one item of each list, in lexicographic order: the last item goes fastest
abbrev pub choices : List (List Value) → List (List Value)
choices [] = [] ∷ []
choices (vs ∷ more) = flat_map (λ v. map (λ rest. v ∷ rest) (choices more)) vs

-- the values of one level of a sort, where those of the parts are known
abbrev pub carrier_layer : List ℕ → sort_layer.Sort-F (List Value) → List Value
carrier_layer widths sort_layer.Dot = values.Dot ∷ []
carrier_layer widths sort_layer.Bool = values.Bool false ∷ values.Bool true ∷ []
carrier_layer widths (sort_layer.Enumeration n) = constants (width_of widths n)
carrier_layer widths (sort_layer.Partition n) = constants (width_of widths n)
carrier_layer widths (sort_layer.Range start end) = numbers_between start end
carrier_layer widths (sort_layer.Product parts) = map values.Tuple (choices parts)
carrier_layer widths sort_layer.Integer = []
carrier_layer widths sort_layer.Natural = []
carrier_layer widths sort_layer.Positive = []
carrier_layer widths sort_layer.Text = []
carrier_layer widths (sort_layer.List item) = []

-- the values of a finite sort, in order
abbrev pub carrier : List ℕ → Sort → List Value
carrier widths = fold-Sort (List Value) (carrier_layer widths)
