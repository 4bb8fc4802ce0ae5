-- Induction over sort expressions, and the equations of what is said of them.
use Rattle.std.proofs.Common.{◌≡◌, ◌⊎◌, inl, inr, ℕ, ℤ, List, [], ◌∷◌, map, Option, refl, sym, ap, ◌∙◌, subst}
use Rattle.std.specs.List.{Contains}
use Rattle.pn_values.specs.declared.sort.Sort.{Sort}
use Rattle.pn_syntax.specs.declared.sort_expr.SortExpr.{SortExpr}
use Rattle.pn_syntax.specs.declared.sort_expr.SortNode.{SortNode, map-SortNode}
use Rattle.pn_syntax.specs.declared.sort_expr.SortNode.TheOpen as layer
use Rattle.pn_syntax.specs.declared.sort_expr.SortNode.TheVariants as nodes
use Rattle.pn_syntax.specs.declared.sort_expr.SortNode.TheVariants.{rolls-Product, rolls-User, rolls-List, rolls-Range}
use Rattle.pn_syntax.specs.declared.sort_expr.SortNode.TheViews.{out-SortNode, roll-SortNode, out-roll-SortNode, roll-out-SortNode}
use Rattle.pn_syntax.specs.declared.sort_expr.SortNode.TheFolds.{fold-SortNode, fold_out-SortExpr, fold_out-SortNode, ind-SortExpr}
use Rattle.pn_resolve.specs.declared.extent.Extent.{Extent}
use Rattle.pn_resolve.specs.Meaning.{node_sort, sort_with}
use Rattle.pn_resolve.specs.Telling.{Told, told_node, told}
use Rattle.pn_resolve.specs.Standing.{IsSortPart, itself, product, list}
use Rattle.pn_facts.proofs.Contained.{contains_nil, contains_cases}

-- one layer of an expression
abbrev pub NodeLayer : Type 0
NodeLayer = layer.SortNode-F SortNode SortExpr

-- the expression stands directly in the layer
abbrev pub IsIn : NodeLayer → SortExpr → Type 0
IsIn layer.Dot p = ⊥
IsIn layer.Bool p = ⊥
IsIn (layer.Range start end) p = ⊥
IsIn (layer.Product parts) p = Contains parts p
IsIn (layer.User name) p = ⊥
IsIn layer.Integer p = ⊥
IsIn layer.Natural p = ⊥
IsIn layer.Positive p = ⊥
IsIn layer.Text p = ⊥
IsIn (layer.List part) p = p ≡ part

module _ (P : SortExpr → Type 0) where
  abbrev AtNode : SortNode → Type 0
  AtNode n = (e : SortExpr) → e.node ≡ n → P e

  abbrev WithProof : Type 0
  WithProof = (e : SortExpr) × P e

  abbrev NodeWithProof : Type 0
  NodeWithProof = (n : SortNode) × AtNode n

  abbrev plain : layer.SortNode-F NodeWithProof WithProof → NodeLayer
  plain y = map-SortNode NodeWithProof WithProof SortNode SortExpr (λ n. n.0) (λ e. e.0) y

  in_list : (ps : List WithProof) (p : SortExpr) → Contains (map (λ e. e.0) ps) p → P p
  in_list [] p is = absurd (contains_nil p is)
  in_list (q ∷ ps) p is = step (contains_cases q.0 (map (λ e. e.0) ps) p is) (in_list ps p)
    where
      step : (q.0 ≡ p) ⊎ Contains (map (λ e. e.0) ps) p → (Contains (map (λ e. e.0) ps) p → P p) → P p
      step (inl e) more = subst P e q.1
      step (inr d) more = more d

  parts_have : (y : layer.SortNode-F NodeWithProof WithProof) (p : SortExpr) → IsIn (plain y) p → P p
  parts_have layer.Dot p is = absurd is
  parts_have layer.Bool p is = absurd is
  parts_have (layer.Range start end) p is = absurd is
  parts_have (layer.Product parts) p is = in_list parts p is
  parts_have (layer.User name) p is = absurd is
  parts_have layer.Integer p is = absurd is
  parts_have layer.Natural p is = absurd is
  parts_have layer.Positive p is = absurd is
  parts_have layer.Text p is = absurd is
  parts_have (layer.List part) p is = subst P (sym is) part.1

  -- what an expression has where each part of its layer has it, each expression has
  pub expr_ind : ((l : NodeLayer) (e : SortExpr) → out-SortNode e.node ≡ l → ((p : SortExpr) → IsIn l p → P p) → P e) → (e : SortExpr) → P e
  expr_ind step = ind-SortExpr AtNode P
      (λ x y is. λ e at. step (plain y) e (ap out-SortNode at ∙ out-roll-SortNode x ∙ sym is) (parts_have y))
      (λ x y is. subst (λ z. P (record { at = z.at; node = z.node })) is (y.node.1 (record { at = y.at; node = y.node.0 }) refl))

pub told_at : (known : List ℕ → Option Extent) (e : SortExpr) (l : NodeLayer) → out-SortNode e.node ≡ l
    → told known e ≡ told_node known (map-SortNode SortNode SortExpr (ℕ → Told) Told (fold-SortNode (ℕ → Told) Told (told_node known) (λ e. e.node e.at)) (told known) l) e.at
told_at known e l is =
    fold_out-SortExpr (ℕ → Told) Told (told_node known) (λ e. e.node e.at) e
    ∙ ap (λ f. f e.at) (fold_out-SortNode (ℕ → Told) Told (told_node known) (λ e. e.node e.at) e.node)
    ∙ ap (λ m. told_node known (map-SortNode SortNode SortExpr (ℕ → Told) Told (fold-SortNode (ℕ → Told) Told (told_node known) (λ e. e.node e.at)) (told known) m) e.at) is

pub sort_at : (means : List ℕ → Option Sort) (e : SortExpr) (l : NodeLayer) → out-SortNode e.node ≡ l
    → sort_with means e ≡ node_sort means (map-SortNode SortNode SortExpr (Option Sort) (Option Sort) (fold-SortNode (Option Sort) (Option Sort) (node_sort means) (λ e. e.node)) (sort_with means) l)
sort_at means e l is =
    fold_out-SortExpr (Option Sort) (Option Sort) (node_sort means) (λ e. e.node) e
    ∙ fold_out-SortNode (Option Sort) (Option Sort) (node_sort means) (λ e. e.node) e.node
    ∙ ap (λ m. node_sort means (map-SortNode SortNode SortExpr (Option Sort) (Option Sort) (fold-SortNode (Option Sort) (Option Sort) (node_sort means) (λ e. e.node)) (sort_with means) m)) is

pub out_product : (n : SortNode) (parts : List SortExpr) → n ≡ nodes.Product parts → out-SortNode n ≡ layer.Product parts
out_product n parts is = ap out-SortNode (is ∙ sym (rolls-Product parts)) ∙ out-roll-SortNode (layer.Product parts)

pub out_list : (n : SortNode) (part : SortExpr) → n ≡ nodes.List part → out-SortNode n ≡ layer.List part
out_list n part is = ap out-SortNode (is ∙ sym (rolls-List part)) ∙ out-roll-SortNode (layer.List part)

pub out_user : (n : SortNode) (name : List ℕ) → n ≡ nodes.User name → out-SortNode n ≡ layer.User name
out_user n name is = ap out-SortNode (is ∙ sym (rolls-User name)) ∙ out-roll-SortNode (layer.User name)

pub out_range : (n : SortNode) (start end : ℤ) → n ≡ nodes.Range start end → out-SortNode n ≡ layer.Range start end
out_range n start end is = ap out-SortNode (is ∙ sym (rolls-Range start end)) ∙ out-roll-SortNode (layer.Range start end)

pub is_product : (n : SortNode) (parts : List SortExpr) → out-SortNode n ≡ layer.Product parts → n ≡ nodes.Product parts
is_product n parts is = sym (roll-out-SortNode n) ∙ ap roll-SortNode is ∙ rolls-Product parts

pub is_list : (n : SortNode) (part : SortExpr) → out-SortNode n ≡ layer.List part → n ≡ nodes.List part
is_list n part is = sym (roll-out-SortNode n) ∙ ap roll-SortNode is ∙ rolls-List part

pub is_user : (n : SortNode) (name : List ℕ) → out-SortNode n ≡ layer.User name → n ≡ nodes.User name
is_user n name is = sym (roll-out-SortNode n) ∙ ap roll-SortNode is ∙ rolls-User name

pub is_range : (n : SortNode) (start end : ℤ) → out-SortNode n ≡ layer.Range start end → n ≡ nodes.Range start end
is_range n start end is = sym (roll-out-SortNode n) ∙ ap roll-SortNode is ∙ rolls-Range start end

pub part_of_part : (l : NodeLayer) (e p x : SortExpr) → out-SortNode e.node ≡ l → IsIn l p → IsSortPart p x → IsSortPart e x
part_of_part layer.Dot e p x at is w = absurd is
part_of_part layer.Bool e p x at is w = absurd is
part_of_part (layer.Range start end) e p x at is w = absurd is
part_of_part (layer.Product parts) e p x at is w = product e x p parts (is_product e.node parts at) is w
part_of_part (layer.User name) e p x at is w = absurd is
part_of_part layer.Integer e p x at is w = absurd is
part_of_part layer.Natural e p x at is w = absurd is
part_of_part layer.Positive e p x at is w = absurd is
part_of_part layer.Text e p x at is w = absurd is
part_of_part (layer.List part) e p x at is w = list e x part (is_list e.node part at) (subst (λ y. IsSortPart y x) is w)

-- each name in an expression is such a one
abbrev pub NamesIn : (List ℕ → Type 0) → SortExpr → Type 0
NamesIn Q e = (x : SortExpr) (name : List ℕ) → IsSortPart e x → x.node ≡ nodes.User name → Q name

pub names_in_part : (Q : List ℕ → Type 0) (l : NodeLayer) (e p : SortExpr) → out-SortNode e.node ≡ l → IsIn l p → NamesIn Q e → NamesIn Q p
names_in_part Q l e p at is all = λ x name part node. all x name (part_of_part l e p x at is part) node

pub name_itself : (Q : List ℕ → Type 0) (e : SortExpr) (name : List ℕ) → out-SortNode e.node ≡ layer.User name → NamesIn Q e → Q name
name_itself Q e name at all = all e name (itself e e refl) (is_user e.node name at)
