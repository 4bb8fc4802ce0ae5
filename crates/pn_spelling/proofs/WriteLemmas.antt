-- The elements of sorts, terms and pages, by what they say.
use Rattle.std.proofs.Common.{◌≡◌, ℕ, List, [], ◌∷◌, ◌++◌, map, codes, refl, sym, ap, ◌∙◌}
use Rattle.pn_operators.specs.Operators.{name_of}
use Rattle.pn_operators.specs.declared.op.Op.{Op}
use Rattle.pn_syntax.specs.declared.sort_expr.SortExpr.{SortExpr}
use Rattle.pn_syntax.specs.declared.sort_expr.SortNode.{SortNode}
use Rattle.pn_syntax.specs.declared.sort_expr.SortNode.TheOpen as sort_layer
use Rattle.pn_syntax.specs.declared.sort_expr.SortNode.TheVariants as sorts
use Rattle.pn_syntax.specs.declared.sort_expr.SortNode.TheVariants.{rolls-Product, rolls-List}
use Rattle.pn_syntax.specs.declared.sort_expr.SortNode.TheViews.{out-SortNode, out-roll-SortNode}
use Rattle.pn_syntax.specs.declared.sort_expr.SortNode.TheFolds.{map-SortNode, fold-SortNode, fold_out-SortExpr, fold_out-SortNode}
use Rattle.pn_syntax.specs.declared.term.Term.{Term}
use Rattle.pn_syntax.specs.declared.term.TermNode.{TermNode}
use Rattle.pn_syntax.specs.declared.term.TermNode.TheOpen as term_layer
use Rattle.pn_syntax.specs.declared.term.TermNode.TheVariants as terms
use Rattle.pn_syntax.specs.declared.term.TermNode.TheVariants.{rolls-UserOp, rolls-PartitionOf, rolls-Apply}
use Rattle.pn_syntax.specs.declared.term.TermNode.TheViews.{out-TermNode, out-roll-TermNode}
use Rattle.pn_syntax.specs.declared.term.TermNode.TheFolds.{map-TermNode, fold-TermNode, fold_out-Term, fold_out-TermNode}
use Rattle.pn_objects.specs.declared.net.Page.{Page}
use Rattle.pn_objects.specs.declared.net.Page.TheViews.{out-Page}
use Rattle.pn_objects.specs.declared.net.Page.TheFolds.{fold_out-Page}
use Rattle.pn_tree.specs.declared.element.Element.{Element}
use Rattle.pn_spelling.specs.Writing.{attribute, made, attributed, enclosing, all_kids}
use Rattle.pn_spelling.specs.WriteSorts.{sort_step, sort_element}
use Rattle.pn_spelling.specs.WriteTerms.{subterm, term_step, term_element}
use Rattle.pn_spelling.specs.WriteNets.{id_attr, own_kids, page_step, page_element}

pub sort_at : (e : SortExpr) (l : sort_layer.SortNode-F SortNode SortExpr) → out-SortNode e.node ≡ l
    → sort_element e ≡ sort_step (map-SortNode SortNode SortExpr Element Element (fold-SortNode Element Element sort_step (λ e. e.node)) sort_element l)
sort_at e l is =
    fold_out-SortExpr Element Element sort_step (λ e. e.node) e
    ∙ fold_out-SortNode Element Element sort_step (λ e. e.node) e.node
    ∙ ap (λ m. sort_step (map-SortNode SortNode SortExpr Element Element (fold-SortNode Element Element sort_step (λ e. e.node)) sort_element m)) is

pub product_element : (e : SortExpr) (parts : List SortExpr) → e.node ≡ sorts.Product parts → sort_element e ≡ made (codes "productsort") [] (all_kids sort_element parts)
product_element e parts is = sort_at e (sort_layer.Product parts) (ap out-SortNode (is ∙ sym (rolls-Product parts)) ∙ out-roll-SortNode (sort_layer.Product parts))

pub list_element : (e item : SortExpr) → e.node ≡ sorts.List item → sort_element e ≡ enclosing (codes "list") (sort_element item)
list_element e item is = sort_at e (sort_layer.List item) (ap out-SortNode (is ∙ sym (rolls-List item)) ∙ out-roll-SortNode (sort_layer.List item))

pub term_at : (e : Term) (l : term_layer.TermNode-F TermNode Term) → out-TermNode e.node ≡ l
    → term_element e ≡ term_step (map-TermNode TermNode Term Element Element (fold-TermNode Element Element term_step (λ e. e.node)) term_element l)
term_at e l is =
    fold_out-Term Element Element term_step (λ e. e.node) e
    ∙ fold_out-TermNode Element Element term_step (λ e. e.node) e.node
    ∙ ap (λ m. term_step (map-TermNode TermNode Term Element Element (fold-TermNode Element Element term_step (λ e. e.node)) term_element m)) is

pub user_element : (e : Term) (name : List ℕ) → e.node ≡ terms.UserOp name → term_element e ≡ attributed (codes "useroperator") (codes "declaration") name
user_element e name is = term_at e (term_layer.UserOp name) (ap out-TermNode (is ∙ sym (rolls-UserOp name)) ∙ out-roll-TermNode (term_layer.UserOp name))

pub partition_element : (e : Term) (partition : List ℕ) (arg : Term) → e.node ≡ terms.PartitionOf partition arg
    → term_element e ≡ made (codes "partitionelementof") (attribute (codes "refpartition") partition ∷ []) (subterm (term_element arg) ∷ [])
partition_element e partition arg is = term_at e (term_layer.PartitionOf partition arg) (ap out-TermNode (is ∙ sym (rolls-PartitionOf partition arg)) ∙ out-roll-TermNode (term_layer.PartitionOf partition arg))

pub apply_element : (e : Term) (o : Op) (args : List Term) → e.node ≡ terms.Apply o args → term_element e ≡ made (name_of o) [] (map subterm (map term_element args))
apply_element e o args is = term_at e (term_layer.Apply o args) (ap out-TermNode (is ∙ sym (rolls-Apply o args)) ∙ out-roll-TermNode (term_layer.Apply o args))

pub page_made : (p : Page) → page_element p ≡ made (codes "page") (id_attr (out-Page p).id ∷ []) (own_kids (out-Page p) ++ all_kids page_element (out-Page p).pages)
page_made p = fold_out-Page Element page_step p ∙ refl
