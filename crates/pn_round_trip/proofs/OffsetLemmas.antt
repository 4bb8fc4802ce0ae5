-- What is made of a sort or of a term layer by layer, and asks for no offset, is the same without offsets.
use Rattle.std.proofs.Common.{◌≡◌, List, [], ◌∷◌, map, refl, sym, ap, ◌∙◌, subst}
use Rattle.pn_syntax.specs.Offsets.{at_zero, sort_without_offsets}
use Rattle.pn_syntax.specs.declared.sort_expr.SortExpr.{SortExpr}
use Rattle.pn_syntax.specs.declared.sort_expr.SortNode.{SortNode, map-SortNode}
use Rattle.pn_syntax.specs.declared.sort_expr.SortNode.TheOpen as layer
use Rattle.pn_syntax.specs.declared.sort_expr.SortNode.TheViews.{roll-SortNode, out-roll-SortNode}
use Rattle.pn_syntax.specs.declared.sort_expr.SortNode.TheFolds.{fold-SortExpr, fold-SortNode, fold_out-SortExpr, fold_out-SortNode, ind-SortExpr}
use Rattle.pn_syntax.specs.TermOffsets as terms
use Rattle.pn_syntax.specs.TermOffsets.{layer_without_offsets, node_without_offsets, term_without_offsets}
use Rattle.pn_syntax.specs.declared.term.Term.{Term}
use Rattle.pn_syntax.specs.declared.term.TermNode.{TermNode, map-TermNode}
use Rattle.pn_syntax.specs.declared.term.TermNode.TheOpen as term_layer
use Rattle.pn_syntax.specs.declared.term.TermNode.TheViews.{roll-TermNode, out-roll-TermNode}
use Rattle.pn_syntax.specs.declared.term.TermNode.TheFolds.{fold-Term, fold-TermNode, fold_out-Term, fold_out-TermNode, ind-Term}

-- one layer of a sort
abbrev pub SortLayer : Type 0
SortLayer = layer.SortNode-F SortNode SortExpr

abbrev pub bare_sort_node : SortNode → SortNode
bare_sort_node = fold-SortNode SortNode SortExpr roll-SortNode at_zero

abbrev pub bare_sort_layer : SortLayer → SortLayer
bare_sort_layer l = map-SortNode SortNode SortExpr SortNode SortExpr bare_sort_node sort_without_offsets l

pub bare_sort_rolled : (l : SortLayer) → bare_sort_node (roll-SortNode l) ≡ roll-SortNode (bare_sort_layer l)
bare_sort_rolled l = fold_out-SortNode SortNode SortExpr roll-SortNode at_zero (roll-SortNode l) ∙ ap (λ k. roll-SortNode (bare_sort_layer k)) (out-roll-SortNode l)

module _ {N E : Type 0} (step : layer.SortNode-F N E → N) (close : N → E) where
  abbrev of_sort : SortExpr → E
  of_sort = fold-SortExpr N E step (λ e. close e.node)

  abbrev of_node : SortNode → N
  of_node = fold-SortNode N E step (λ e. close e.node)

  abbrev of_layer : SortLayer → N
  of_layer l = step (map-SortNode SortNode SortExpr N E of_node of_sort l)

  abbrev HasSameBare : SortExpr → Type 0
  HasSameBare e = of_sort (sort_without_offsets e) ≡ of_sort e

  abbrev NodeHasSameBare : SortNode → Type 0
  NodeHasSameBare n = of_node (bare_sort_node n) ≡ of_node n

  abbrev SortWithProof : Type 0
  SortWithProof = (e : SortExpr) × HasSameBare e

  abbrev NodeWithProof : Type 0
  NodeWithProof = (n : SortNode) × NodeHasSameBare n

  abbrev plain : layer.SortNode-F NodeWithProof SortWithProof → SortLayer
  plain y = map-SortNode NodeWithProof SortWithProof SortNode SortExpr (λ n. n.0) (λ e. e.0) y

  of_rolled : (l : SortLayer) → of_node (roll-SortNode l) ≡ of_layer l
  of_rolled l = fold_out-SortNode N E step (λ e. close e.node) (roll-SortNode l) ∙ ap of_layer (out-roll-SortNode l)

  of_parts : (ys : List SortWithProof) → map of_sort (map sort_without_offsets (map (λ e. e.0) ys)) ≡ map of_sort (map (λ e. e.0) ys)
  of_parts [] = refl
  of_parts (y ∷ ys) = λ i. y.1 i ∷ of_parts ys i

  of_layer_bare : (y : layer.SortNode-F NodeWithProof SortWithProof) → of_layer (bare_sort_layer (plain y)) ≡ of_layer (plain y)
  of_layer_bare layer.Dot = refl
  of_layer_bare layer.Bool = refl
  of_layer_bare (layer.Range start end) = refl
  of_layer_bare (layer.Product parts) = ap (λ xs. step (layer.Product xs)) (of_parts parts)
  of_layer_bare (layer.User name) = refl
  of_layer_bare layer.Integer = refl
  of_layer_bare layer.Natural = refl
  of_layer_bare layer.Positive = refl
  of_layer_bare layer.Text = refl
  of_layer_bare (layer.List item) = ap (λ x. step (layer.List x)) item.1

  node_step : (y : layer.SortNode-F NodeWithProof SortWithProof) → NodeHasSameBare (roll-SortNode (plain y))
  node_step y = ap of_node (bare_sort_rolled (plain y)) ∙ of_rolled (bare_sort_layer (plain y)) ∙ of_layer_bare y ∙ sym (of_rolled (plain y))

  of_expr : (e : SortExpr) → of_sort e ≡ close (of_node e.node)
  of_expr = fold_out-SortExpr N E step (λ e. close e.node)

  expr_step : (e : SortExpr) → NodeHasSameBare e.node → HasSameBare e
  expr_step e h =
      ap of_sort (fold_out-SortExpr SortNode SortExpr roll-SortNode at_zero e)
      ∙ of_expr (record { at = 0; node = bare_sort_node e.node })
      ∙ ap close h
      ∙ sym (of_expr e)

  pub of_bare_sort : (e : SortExpr) → HasSameBare e
  of_bare_sort = ind-SortExpr NodeHasSameBare HasSameBare
      (λ x y is. subst (λ l. NodeHasSameBare (roll-SortNode l)) is (node_step y))
      (λ x y is. subst (λ z. HasSameBare (record { at = z.at; node = z.node })) is (expr_step (record { at = y.at; node = y.node.0 }) y.node.1))

-- one layer of a term
abbrev pub TermLayer : Type 0
TermLayer = term_layer.TermNode-F TermNode Term

abbrev pub bare_term_node : TermNode → TermNode
bare_term_node = fold-TermNode TermNode Term node_without_offsets terms.at_zero

abbrev pub bare_term_layer : TermLayer → TermLayer
bare_term_layer l = layer_without_offsets (map-TermNode TermNode Term TermNode Term bare_term_node term_without_offsets l)

pub bare_term_rolled : (l : TermLayer) → bare_term_node (roll-TermNode l) ≡ roll-TermNode (bare_term_layer l)
bare_term_rolled l = fold_out-TermNode TermNode Term node_without_offsets terms.at_zero (roll-TermNode l) ∙ ap (λ k. roll-TermNode (bare_term_layer k)) (out-roll-TermNode l)

-- a layer whose sort is without offsets
abbrev pub with_bare_sort : {N E : Type 0} → term_layer.TermNode-F N E → term_layer.TermNode-F N E
with_bare_sort (term_layer.Variable name) = term_layer.Variable name
with_bare_sort (term_layer.UserOp name) = term_layer.UserOp name
with_bare_sort (term_layer.Bool truth) = term_layer.Bool truth
with_bare_sort (term_layer.Number value sort) = term_layer.Number value sort
with_bare_sort (term_layer.RangeConst value start end) = term_layer.RangeConst value start end
with_bare_sort (term_layer.Text text) = term_layer.Text text
with_bare_sort (term_layer.All sort) = term_layer.All (sort_without_offsets sort)
with_bare_sort (term_layer.Empty sort) = term_layer.Empty (sort_without_offsets sort)
with_bare_sort (term_layer.EmptyList sort) = term_layer.EmptyList (sort_without_offsets sort)
with_bare_sort (term_layer.PartitionOf partition arg) = term_layer.PartitionOf partition arg
with_bare_sort (term_layer.Apply op args) = term_layer.Apply op args

module _ {N E : Type 0} (step : term_layer.TermNode-F N E → N) (close : N → E) (blind : (l : term_layer.TermNode-F N E) → step (with_bare_sort l) ≡ step l) where
  abbrev of_term : Term → E
  of_term = fold-Term N E step (λ e. close e.node)

  abbrev of_term_node : TermNode → N
  of_term_node = fold-TermNode N E step (λ e. close e.node)

  abbrev of_term_layer : TermLayer → N
  of_term_layer l = step (map-TermNode TermNode Term N E of_term_node of_term l)

  abbrev TermHasSameBare : Term → Type 0
  TermHasSameBare e = of_term (term_without_offsets e) ≡ of_term e

  abbrev TermNodeHasSameBare : TermNode → Type 0
  TermNodeHasSameBare n = of_term_node (bare_term_node n) ≡ of_term_node n

  abbrev TermWithProof : Type 0
  TermWithProof = (e : Term) × TermHasSameBare e

  abbrev TermNodeWithProof : Type 0
  TermNodeWithProof = (n : TermNode) × TermNodeHasSameBare n

  abbrev plain_term : term_layer.TermNode-F TermNodeWithProof TermWithProof → TermLayer
  plain_term y = map-TermNode TermNodeWithProof TermWithProof TermNode Term (λ n. n.0) (λ e. e.0) y

  of_term_rolled : (l : TermLayer) → of_term_node (roll-TermNode l) ≡ of_term_layer l
  of_term_rolled l = fold_out-TermNode N E step (λ e. close e.node) (roll-TermNode l) ∙ ap of_term_layer (out-roll-TermNode l)

  of_args : (ys : List TermWithProof) → map of_term (map term_without_offsets (map (λ e. e.0) ys)) ≡ map of_term (map (λ e. e.0) ys)
  of_args [] = refl
  of_args (y ∷ ys) = λ i. y.1 i ∷ of_args ys i

  of_term_layer_bare : (y : term_layer.TermNode-F TermNodeWithProof TermWithProof) → of_term_layer (bare_term_layer (plain_term y)) ≡ of_term_layer (plain_term y)
  of_term_layer_bare (term_layer.Variable name) = refl
  of_term_layer_bare (term_layer.UserOp name) = refl
  of_term_layer_bare (term_layer.Bool truth) = refl
  of_term_layer_bare (term_layer.Number value sort) = refl
  of_term_layer_bare (term_layer.RangeConst value start end) = refl
  of_term_layer_bare (term_layer.Text text) = refl
  of_term_layer_bare (term_layer.All sort) = blind (term_layer.All sort)
  of_term_layer_bare (term_layer.Empty sort) = blind (term_layer.Empty sort)
  of_term_layer_bare (term_layer.EmptyList sort) = blind (term_layer.EmptyList sort)
  of_term_layer_bare (term_layer.PartitionOf partition arg) = ap (λ x. step (term_layer.PartitionOf partition x)) arg.1
  of_term_layer_bare (term_layer.Apply op args) = ap (λ xs. step (term_layer.Apply op xs)) (of_args args)

  term_node_step : (y : term_layer.TermNode-F TermNodeWithProof TermWithProof) → TermNodeHasSameBare (roll-TermNode (plain_term y))
  term_node_step y = ap of_term_node (bare_term_rolled (plain_term y)) ∙ of_term_rolled (bare_term_layer (plain_term y)) ∙ of_term_layer_bare y ∙ sym (of_term_rolled (plain_term y))

  of_term_is : (e : Term) → of_term e ≡ close (of_term_node e.node)
  of_term_is = fold_out-Term N E step (λ e. close e.node)

  whole_step : (e : Term) → TermNodeHasSameBare e.node → TermHasSameBare e
  whole_step e h =
      ap of_term (fold_out-Term TermNode Term node_without_offsets terms.at_zero e)
      ∙ of_term_is (record { at = 0; node = bare_term_node e.node })
      ∙ ap close h
      ∙ sym (of_term_is e)

  pub of_bare_term : (e : Term) → TermHasSameBare e
  of_bare_term = ind-Term TermNodeHasSameBare TermHasSameBare
      (λ x y is. subst (λ l. TermNodeHasSameBare (roll-TermNode l)) is (term_node_step y))
      (λ x y is. subst (λ z. TermHasSameBare (record { at = z.at; node = z.node })) is (whole_step (record { at = y.at; node = y.node.0 }) y.node.1))
