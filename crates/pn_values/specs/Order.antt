-- The order of values.
use Rattle.std.specs.Prelude.{ℕ}
use Rattle.std.specs.Cmp.Lexicographic.{slice_cmp}
use Rattle.std.specs.Ordering.{nat_cmp, int_cmp, bool_cmp}
use Rattle.std.specs.declared.cmp.Ordering.{Ordering}
use Rattle.pn_values.specs.declared.value.Value.{Value, out-Value, fold-Value}
use Rattle.pn_values.specs.declared.value.Value.TheOpen as layer

-- the place of a variant in the order written
abbrev pub variant_of : {P : Type 0} → layer.Value-F P → ℕ
variant_of layer.Dot = 0
variant_of (layer.Bool truth) = 1
variant_of (layer.Const place) = 2
variant_of (layer.Int number) = 3
variant_of (layer.Text text) = 4
variant_of (layer.Tuple parts) = 5
variant_of (layer.List items) = 6

-- two values, where `part_cmp` compares their parts: first by variant, then by content; tuples and lists part by part, a shorter prefix first; texts by bytes; false first
abbrev pub layer_cmp : {P Q : Type 0} → (P → Q → Ordering) → layer.Value-F P → layer.Value-F Q → Ordering
layer_cmp part_cmp (layer.Bool a) (layer.Bool b) = bool_cmp a b
layer_cmp part_cmp (layer.Const a) (layer.Const b) = nat_cmp a b
layer_cmp part_cmp (layer.Int a) (layer.Int b) = int_cmp a b
layer_cmp part_cmp (layer.Text a) (layer.Text b) = slice_cmp nat_cmp a b
layer_cmp part_cmp (layer.Tuple ps) (layer.Tuple qs) = slice_cmp part_cmp ps qs
layer_cmp part_cmp (layer.List ps) (layer.List qs) = slice_cmp part_cmp ps qs
layer_cmp part_cmp layer.Dot layer.Dot = nat_cmp 0 0
layer_cmp part_cmp a b = nat_cmp (variant_of a) (variant_of b)

-- the order of values: each part of the first is compared with the part of the second at its place
abbrev pub value_cmp : Value → Value → Ordering
value_cmp = fold-Value (Value → Ordering) (λ a b. layer_cmp (λ compare part. compare part) a (out-Value b))
