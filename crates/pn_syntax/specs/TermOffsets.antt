-- A term with each offset in it set to 0, also in the sorts that it writes: two terms are equal but for their offsets where these are equal.
use Rattle.pn_syntax.specs.Offsets.{sort_without_offsets}
use Rattle.pn_syntax.specs.declared.term.Term.{Term}
use Rattle.pn_syntax.specs.declared.term.TermNode.{TermNode}
use Rattle.pn_syntax.specs.declared.term.TermNode.TheOpen as layer
use Rattle.pn_syntax.specs.declared.term.TermNode.TheViews.{roll-TermNode}
use Rattle.pn_syntax.specs.declared.term.TermNode.TheFolds.{fold-Term}

-- a layer whose sort is without offsets, with its parts as they are given
abbrev pub layer_without_offsets : layer.TermNode-F TermNode Term → layer.TermNode-F TermNode Term
layer_without_offsets (layer.Variable name) = layer.Variable name
layer_without_offsets (layer.UserOp name) = layer.UserOp name
layer_without_offsets (layer.Bool truth) = layer.Bool truth
layer_without_offsets (layer.Number value sort) = layer.Number value sort
layer_without_offsets (layer.RangeConst value start end) = layer.RangeConst value start end
layer_without_offsets (layer.Text text) = layer.Text text
layer_without_offsets (layer.All sort) = layer.All (sort_without_offsets sort)
layer_without_offsets (layer.Empty sort) = layer.Empty (sort_without_offsets sort)
layer_without_offsets (layer.EmptyList sort) = layer.EmptyList (sort_without_offsets sort)
layer_without_offsets (layer.PartitionOf partition arg) = layer.PartitionOf partition arg
layer_without_offsets (layer.Apply op args) = layer.Apply op args

-- the same as a node
abbrev pub node_without_offsets : layer.TermNode-F TermNode Term → TermNode
node_without_offsets l = roll-TermNode (layer_without_offsets l)

-- one element of a term at the offset 0, with its node as it is given
abbrev pub at_zero : layer.Term-F TermNode Term → Term
at_zero e = record { at = 0; node = e.node }

-- a term
abbrev pub term_without_offsets : Term → Term
term_without_offsets = fold-Term TermNode Term node_without_offsets at_zero
