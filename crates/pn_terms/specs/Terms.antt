-- The parts of a term, and the terms in it.
use Rattle.std.specs.Prelude.{◌≡◌, List, [], ◌∷◌}
use Rattle.std.specs.List.{Contains}
use Rattle.pn_syntax.specs.declared.term.Term.{Term}
use Rattle.pn_syntax.specs.declared.term.TermNode.{TermNode}
use Rattle.pn_syntax.specs.declared.term.TermNode.TheOpen as layer
use Rattle.pn_syntax.specs.declared.term.TermNode.TheViews.{out-TermNode}

-- one layer of a term
abbrev pub Layer : Type 0
Layer = layer.TermNode-F TermNode Term

abbrev pub parts_in : {A B : Type 0} → layer.TermNode-F A B → List B
parts_in (layer.Variable name) = []
parts_in (layer.UserOp name) = []
parts_in (layer.Bool truth) = []
parts_in (layer.Number value sort) = []
parts_in (layer.RangeConst value start end) = []
parts_in (layer.Text text) = []
parts_in (layer.All sort) = []
parts_in (layer.Empty sort) = []
parts_in (layer.EmptyList sort) = []
parts_in (layer.PartitionOf partition arg) = arg ∷ []
parts_in (layer.Apply op args) = args

-- the outermost layer of a term
abbrev pub layer_of : Term → Layer
layer_of e = out-TermNode e.node

-- the arguments of a term
abbrev pub parts_of : Term → List Term
parts_of e = parts_in (layer_of e)

-- the second is the first term or a term in it
pub data IsPart : Term → Term → Type 0 where
  itself : (e x : Term) → x ≡ e → IsPart e x
  inside : (e x p : Term) → Contains (parts_of e) p → IsPart p x → IsPart e x
