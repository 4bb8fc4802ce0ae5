-- The variables of a term with arguments are those of the arguments.
use Rattle.std.proofs.Common.{◌≡◌, ℕ, List, ap, ◌∙◌}
use Rattle.std.specs.List.{flat_map}
use Rattle.pn_operators.specs.declared.op.Op.{Op}
use Rattle.pn_syntax.specs.declared.declaration.Declaration.{Declaration}
use Rattle.pn_syntax.specs.declared.term.Term.{Term}
use Rattle.pn_syntax.specs.declared.term.TermNode.{TermNode, map-TermNode}
use Rattle.pn_syntax.specs.declared.term.TermNode.TheOpen as layer
use Rattle.pn_syntax.specs.declared.term.TermNode.TheVariants as nodes
use Rattle.pn_syntax.specs.declared.term.TermNode.TheFolds.{fold-TermNode, fold_out-Term, fold_out-TermNode}
use Rattle.pn_terms.specs.Terms.{Layer, layer_of}
use Rattle.pn_terms.specs.Variables.{variables_in_layer, variables_in_term}
use Rattle.pn_faults.proofs.RisingLemmas.{all_joined}
use Rattle.pn_terms.proofs.TermLemmas.{out_apply}

pub variables_at : (items : List Declaration) (e : Term) (l : Layer) → layer_of e ≡ l
    → variables_in_term items e ≡ variables_in_layer items (map-TermNode TermNode Term (List ℕ) (List ℕ) (fold-TermNode (List ℕ) (List ℕ) (variables_in_layer items) (λ e. e.node)) (variables_in_term items) l)
variables_at items e l is =
    fold_out-Term (List ℕ) (List ℕ) (variables_in_layer items) (λ e. e.node) e
    ∙ fold_out-TermNode (List ℕ) (List ℕ) (variables_in_layer items) (λ e. e.node) e.node
    ∙ ap (λ m. variables_in_layer items (map-TermNode TermNode Term (List ℕ) (List ℕ) (fold-TermNode (List ℕ) (List ℕ) (variables_in_layer items) (λ e. e.node)) (variables_in_term items) m)) is

pub variables_of_apply : (items : List Declaration) (e : Term) (o : Op) (args : List Term) → e.node ≡ nodes.Apply o args → variables_in_term items e ≡ flat_map (variables_in_term items) args
variables_of_apply items e o args is = variables_at items e (layer.Apply o args) (out_apply e.node o args is) ∙ all_joined (variables_in_term items) args
