-- Terms whose offsets rise in document order, as those of a document do.
use Rattle.std.specs.Prelude.{ℕ, List, [], ◌∷◌}
use Rattle.std.specs.List.{flat_map}
use Rattle.pn_faults.specs.Rising.{Rise}
use Rattle.pn_sorts.specs.Order.{offsets_of_sort}
use Rattle.pn_syntax.specs.declared.term.Term.{Term}
use Rattle.pn_syntax.specs.declared.term.TermNode.TheOpen as layer
use Rattle.pn_syntax.specs.declared.term.TermNode.TheFolds.{fold-Term}

-- the offsets in a layer, where those of its parts are known
abbrev pub offsets_in_layer : layer.TermNode-F (List ℕ) (List ℕ) → List ℕ
offsets_in_layer (layer.Variable name) = []
offsets_in_layer (layer.UserOp name) = []
offsets_in_layer (layer.Bool truth) = []
offsets_in_layer (layer.Number value sort) = []
offsets_in_layer (layer.RangeConst value start end) = []
offsets_in_layer (layer.Text text) = []
offsets_in_layer (layer.All sort) = []
offsets_in_layer (layer.Empty sort) = []
offsets_in_layer (layer.EmptyList sort) = []
offsets_in_layer (layer.PartitionOf partition arg) = arg
offsets_in_layer (layer.Apply op args) = flat_map (λ offsets. offsets) args

-- the offset of a term and those of the terms in it, in document order
abbrev pub offsets_of : Term → List ℕ
offsets_of = fold-Term (List ℕ) (List ℕ) offsets_in_layer (λ e. e.at ∷ e.node)

-- the offsets in a term rise in document order
abbrev pub IsOrdered : Term → Type 0
IsOrdered e = Rise (offsets_of e)

-- the offsets in the sorts that a layer writes, where those of its parts are known
abbrev pub sort_offsets_in_layer : layer.TermNode-F (List ℕ) (List ℕ) → List ℕ
sort_offsets_in_layer (layer.Variable name) = []
sort_offsets_in_layer (layer.UserOp name) = []
sort_offsets_in_layer (layer.Bool truth) = []
sort_offsets_in_layer (layer.Number value sort) = []
sort_offsets_in_layer (layer.RangeConst value start end) = []
sort_offsets_in_layer (layer.Text text) = []
sort_offsets_in_layer (layer.All sort) = offsets_of_sort sort
sort_offsets_in_layer (layer.Empty sort) = offsets_of_sort sort
sort_offsets_in_layer (layer.EmptyList sort) = offsets_of_sort sort
sort_offsets_in_layer (layer.PartitionOf partition arg) = arg
sort_offsets_in_layer (layer.Apply op args) = flat_map (λ offsets. offsets) args

-- the offsets in the sorts that a term writes, in document order
abbrev pub sort_offsets_of : Term → List ℕ
sort_offsets_of = fold-Term (List ℕ) (List ℕ) sort_offsets_in_layer (λ e. e.node)

-- they rise
abbrev pub HasOrderedSorts : Term → Type 0
HasOrderedSorts e = Rise (sort_offsets_of e)
