-- The variables of transitions are declared.
use Rattle.std.proofs.Common.{◌≡◌, ℕ, ◌<◌, List, [], ◌∷◌, map, length, Option, None, Some, IfSome, refl, sym, ap, ◌∙◌, subst}
use Rattle.std.specs.List.{AllByRecursion, Contains, flat_map}
use Rattle.std.specs.Option.{option_to_list}
use Rattle.pn_facts.proofs.Contained.{contains_some_of}
use Rattle.pn_facts.proofs.Each.{one_of}
use Rattle.pn_names.specs.Names.{variable_named, variables_of}
use Rattle.pn_net.specs.Typed.{AreVariablesAt, terms_at}
use Rattle.pn_net.specs.declared.flat.Flat.{Flat}
use Rattle.pn_sorts.proofs.NameLemmas.{variable_is}
use Rattle.pn_shape.proofs.WrittenLemmas.{both_all}
use Rattle.pn_syntax.specs.declared.declaration.Declaration.{Declaration}
use Rattle.pn_syntax.specs.declared.term.Term.{Term}
use Rattle.pn_syntax.specs.declared.term.TermNode.{TermNode, map-TermNode}
use Rattle.pn_syntax.specs.declared.term.TermNode.TheFolds.{fold-TermNode, fold_out-Term, fold_out-TermNode, ind-Term}
use Rattle.pn_syntax.specs.declared.term.TermNode.TheOpen as layer
use Rattle.pn_syntax.specs.declared.term.TermNode.TheViews.{out-roll-TermNode, roll-TermNode}
use Rattle.pn_terms.specs.Terms.{Layer}
use Rattle.pn_terms.specs.Variables.{variables_in_layer, variables_in_term}

module _ (items : List Declaration) where
  abbrev IsNumber : ℕ → Type 0
  IsNumber v = v < length (variables_of items)

  abbrev of_node : TermNode → List ℕ
  of_node = fold-TermNode (List ℕ) (List ℕ) (variables_in_layer items) (λ e. e.node)

  abbrev of_layer : Layer → List ℕ
  of_layer l = variables_in_layer items (map-TermNode TermNode Term (List ℕ) (List ℕ) of_node (variables_in_term items) l)

  abbrev TermIs : Term → Type 0
  TermIs e = AllByRecursion IsNumber (variables_in_term items e)

  abbrev NodeIs : TermNode → Type 0
  NodeIs n = AllByRecursion IsNumber (of_node n)

  abbrev TermWith : Type 0
  TermWith = (e : Term) × TermIs e

  abbrev NodeWith : Type 0
  NodeWith = (n : TermNode) × NodeIs n

  abbrev plain : layer.TermNode-F NodeWith TermWith → Layer
  plain y = map-TermNode NodeWith TermWith TermNode Term (λ n. n.0) (λ e. e.0) y

  of_args : (ys : List TermWith) → AllByRecursion IsNumber (flat_map (λ vs. vs) (map (variables_in_term items) (map (λ e. e.0) ys)))
  of_args [] = tt
  of_args (y ∷ ys) = both_all IsNumber (variables_in_term items y.0) (flat_map (λ vs. vs) (map (variables_in_term items) (map (λ e. e.0) ys))) y.1 (of_args ys)

  of_named : (o : Option ℕ) → IfSome o IsNumber → AllByRecursion IsNumber (option_to_list o)
  of_named None p = tt
  of_named (Some v) p = (p, tt)

  layer_is : (y : layer.TermNode-F NodeWith TermWith) → AllByRecursion IsNumber (of_layer (plain y))
  layer_is (layer.Variable name) = of_named (variable_named items name) (variable_is items name (variable_named items name) refl)
  layer_is (layer.UserOp name) = tt
  layer_is (layer.Bool truth) = tt
  layer_is (layer.Number value sort) = tt
  layer_is (layer.RangeConst value start end) = tt
  layer_is (layer.Text text) = tt
  layer_is (layer.All e) = tt
  layer_is (layer.Empty e) = tt
  layer_is (layer.EmptyList e) = tt
  layer_is (layer.PartitionOf name arg) = arg.1
  layer_is (layer.Apply op args) = of_args args

  of_rolled : (l : Layer) → of_node (roll-TermNode l) ≡ of_layer l
  of_rolled l = fold_out-TermNode (List ℕ) (List ℕ) (variables_in_layer items) (λ e. e.node) (roll-TermNode l) ∙ ap of_layer (out-roll-TermNode l)

  node_step : (y : layer.TermNode-F NodeWith TermWith) → NodeIs (roll-TermNode (plain y))
  node_step y = subst (AllByRecursion IsNumber) (sym (of_rolled (plain y))) (layer_is y)

  term_step : (e : Term) → NodeIs e.node → TermIs e
  term_step e h = subst (AllByRecursion IsNumber) (sym (fold_out-Term (List ℕ) (List ℕ) (variables_in_layer items) (λ e. e.node) e)) h

  term_is : (e : Term) → TermIs e
  term_is = ind-Term NodeIs TermIs
      (λ x y is. subst (λ l. NodeIs (roll-TermNode l)) is (node_step y))
      (λ x y is. subst (λ z. TermIs (record { at = z.at; node = z.node })) is (term_step (record { at = y.at; node = y.node.0 }) y.node.1))

-- each variable of a transition is one of the declarations
pub are_declared : (f : Flat) (t : ℕ) (vars : List ℕ) → AreVariablesAt f t vars → (v : ℕ) → Contains vars v → v < length (variables_of f.declarations)
are_declared f t vars are v has =
    let from = contains_some_of (variables_in_term f.declarations) (terms_at f t) v ((are.each v).0 has) in
    one_of (IsNumber f.declarations) (variables_in_term f.declarations from.0) v (term_is f.declarations from.0) from.2
