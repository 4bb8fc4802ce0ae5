-- The sorts of terms, in which numbers of every kind are integers (ISO/IEC 15909-2).
use Rattle.pn_values.specs.declared.sort.Sort.{Sort, fold-Sort}
use Rattle.pn_values.specs.declared.sort.Sort.TheOpen as layer
use Rattle.pn_values.specs.declared.sort.Sort.TheVariants as sort

-- one sort, with the kin of its parts in their places: the integers in place of the natural and of the positive numbers
abbrev pub kin_step : layer.Sort-F Sort → Sort
kin_step layer.Dot = sort.Dot
kin_step layer.Bool = sort.Bool
kin_step (layer.Enumeration d) = sort.Enumeration d
kin_step (layer.Partition d) = sort.Partition d
kin_step (layer.Range start end) = sort.Range start end
kin_step (layer.Product parts) = sort.Product parts
kin_step layer.Integer = sort.Integer
kin_step layer.Natural = sort.Integer
kin_step layer.Positive = sort.Integer
kin_step layer.Text = sort.Text
kin_step (layer.List item) = sort.List item

-- the sort with Integer in place of Natural and Positive throughout
abbrev pub kin_of : Sort → Sort
kin_of = fold-Sort Sort kin_step
