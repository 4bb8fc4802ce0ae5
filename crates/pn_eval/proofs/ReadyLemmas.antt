-- What is asked of a term is so of its parts.
use Rattle.std.proofs.Common.{◌≡◌, ℕ, List, [], ◌∷◌, map, Option, Some, refl, sym, ap, ◌∙◌, subst}
use Rattle.std.specs.List.{Contains, flat_map}
use Rattle.std.specs.Option.{option_to_list}
use Rattle.pn_facts.proofs.Contained.{contains_all_of, contains_first, contains_nil, contains_one}
use Rattle.pn_faults.proofs.RisingLemmas.{all_joined}
use Rattle.pn_names.specs.Names.{variable_named}
use Rattle.pn_operators.specs.declared.op.Op.{Op}
use Rattle.pn_syntax.specs.declared.declaration.Declaration.{Declaration}
use Rattle.pn_syntax.specs.declared.term.Term.{Term}
use Rattle.pn_syntax.specs.declared.term.TermNode.{TermNode, map-TermNode}
use Rattle.pn_syntax.specs.declared.term.TermNode.TheOpen as layer
use Rattle.pn_syntax.specs.declared.term.TermNode.TheVariants as nodes
use Rattle.pn_syntax.specs.declared.term.TermNode.TheFolds.{fold-TermNode, fold_out-Term, fold_out-TermNode}
use Rattle.pn_terms.specs.Sorts.{Gives, HasSort, HaveSorts}
use Rattle.pn_terms.specs.Terms.{IsPart, inside, Layer, layer_of, parts_in, parts_of}
use Rattle.pn_terms.specs.Variables.{variables_in_layer, variables_in_term}
use Rattle.pn_terms.specs.declared.term_sort.TermSort.{TermSort}
use Rattle.pn_terms.proofs.SortLemmas.{have_each}
use Rattle.pn_terms.proofs.TermLemmas.{out_apply, out_element, out_variable}
use Rattle.pn_eval.specs.Assignments.{Covers}
use Rattle.pn_eval.specs.Ready.{IsReady}

abbrev variables_below : List Declaration → Layer → List ℕ
variables_below items l = variables_in_layer items (map-TermNode TermNode Term (List ℕ) (List ℕ) (fold-TermNode (List ℕ) (List ℕ) (variables_in_layer items) (λ e. e.node)) (variables_in_term items) l)

variables_at : (items : List Declaration) (e : Term) → variables_in_term items e ≡ variables_below items (layer_of e)
variables_at items e = fold_out-Term (List ℕ) (List ℕ) (variables_in_layer items) (λ e. e.node) e ∙ fold_out-TermNode (List ℕ) (List ℕ) (variables_in_layer items) (λ e. e.node) e.node

part_has : (items : List Declaration) (l : Layer) (p : Term) (v : ℕ) → Contains (parts_in l) p → Contains (variables_in_term items p) v → Contains (variables_below items l) v
part_has items (layer.Variable name) p v c has = absurd (contains_nil p c)
part_has items (layer.UserOp name) p v c has = absurd (contains_nil p c)
part_has items (layer.Bool truth) p v c has = absurd (contains_nil p c)
part_has items (layer.Number value sort) p v c has = absurd (contains_nil p c)
part_has items (layer.RangeConst value start end) p v c has = absurd (contains_nil p c)
part_has items (layer.Text text) p v c has = absurd (contains_nil p c)
part_has items (layer.All e) p v c has = absurd (contains_nil p c)
part_has items (layer.Empty e) p v c has = absurd (contains_nil p c)
part_has items (layer.EmptyList e) p v c has = absurd (contains_nil p c)
part_has items (layer.PartitionOf name arg) p v c has = subst (λ x. Contains (variables_in_term items x) v) (contains_one arg p c) has
part_has items (layer.Apply op args) p v c has = subst (λ vs. Contains vs v) (sym (all_joined (variables_in_term items) args)) (contains_all_of (variables_in_term items) args p v c has)

pub ready_part : (items : List Declaration) (vars : List ℕ) (e p : Term) → Contains (parts_of e) p → IsReady items vars e → IsReady items vars p
ready_part items vars e p c ready = record {
  sound = λ f h. ready.sound f (h.0, inside e h.0 p c h.1, h.2);
  sorted = have_each items (parts_of e) ready.sorted.1.0 ready.sorted.1.1 p c;
  covers = λ v has. ready.covers v (subst (λ vs. Contains vs v) (sym (variables_at items e)) (part_has items (layer_of e) p v c has));
}

-- the part of `partitionelementof`, and the arguments of an operator
pub ready_element : (items : List Declaration) (vars : List ℕ) (e : Term) (name : List ℕ) (arg p : Term) → e.node ≡ nodes.PartitionOf name arg → p ≡ arg → IsReady items vars e → IsReady items vars p
ready_element items vars e name arg p is given ready =
    let parts : parts_of e ≡ p ∷ [] = ap parts_in (out_element e.node name p (is ∙ ap (λ x. nodes.PartitionOf name x) (sym given))) in
    ready_part items vars e p (subst (λ xs. Contains xs p) (sym parts) (contains_first p [])) ready

pub ready_args : (items : List Declaration) (vars : List ℕ) (e : Term) (op : Op) (args ps : List Term) → e.node ≡ nodes.Apply op args → ps ≡ args → IsReady items vars e → (p : Term) → Contains ps p → IsReady items vars p
ready_args items vars e op args ps is given ready p c =
    let parts : parts_of e ≡ ps = ap parts_in (out_apply e.node op ps (is ∙ ap (λ x. nodes.Apply op x) (sym given))) in
    ready_part items vars e p (subst (λ xs. Contains xs p) (sym parts) c) ready

-- what a layer gives by the sorts of its parts
pub sorted_layer : (items : List Declaration) (e : Term) (l : Layer) → layer_of e ≡ l → (s : TermSort) × HasSort items e s → (s : TermSort) × (ts : List TermSort) × HaveSorts items (parts_in l) ts × Gives items l ts s
sorted_layer items e l is (s, (ts, have, gives)) = (s, ts, subst (λ m. HaveSorts items (parts_in m) ts) is have, subst (λ m. Gives items m ts s) is gives)
