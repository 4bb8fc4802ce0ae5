-- The variables of a term.
use Rattle.std.specs.Prelude.{ℕ, List, []}
use Rattle.std.specs.List.{flat_map}
use Rattle.std.specs.Option.{option_to_list}
use Rattle.pn_syntax.specs.declared.declaration.Declaration.{Declaration}
use Rattle.pn_names.specs.Names.{variable_named}
use Rattle.pn_syntax.specs.declared.term.Term.{Term}
use Rattle.pn_syntax.specs.declared.term.TermNode.TheOpen as layer
use Rattle.pn_syntax.specs.declared.term.TermNode.TheFolds.{fold-Term}

-- the variables of a layer, where those of its parts are known
abbrev pub variables_in_layer : List Declaration → layer.TermNode-F (List ℕ) (List ℕ) → List ℕ
variables_in_layer items (layer.Variable name) = option_to_list (variable_named items name)
variables_in_layer items (layer.UserOp name) = []
variables_in_layer items (layer.Bool truth) = []
variables_in_layer items (layer.Number value sort) = []
variables_in_layer items (layer.RangeConst value start end) = []
variables_in_layer items (layer.Text text) = []
variables_in_layer items (layer.All sort) = []
variables_in_layer items (layer.Empty sort) = []
variables_in_layer items (layer.EmptyList sort) = []
variables_in_layer items (layer.PartitionOf partition arg) = arg
variables_in_layer items (layer.Apply op args) = flat_map (λ vs. vs) args

-- the numbers of the variables that stand in a term, each as often as it stands there
abbrev pub variables_in_term : List Declaration → Term → List ℕ
variables_in_term items = fold-Term (List ℕ) (List ℕ) (variables_in_layer items) (λ e. e.node)
