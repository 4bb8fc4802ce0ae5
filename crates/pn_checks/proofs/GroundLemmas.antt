-- A term with a sort in which no variable stands has no variables.
use Rattle.std.proofs.Common.{◌≡◌, ℕ, List, [], ◌∷◌, ◌++◌, append-nil, Some, None, refl, sym, ap, ◌∙◌, subst, arith}
use Rattle.std.specs.List.{Contains, flat_map}
use Rattle.pn_facts.proofs.Contained.{contains_first, contains_next, contains_nil}
use Rattle.pn_faults.proofs.RisingLemmas.{all_joined}
use Rattle.pn_checks.specs.NoValue.{HasNoVariable}
use Rattle.pn_eval.specs.Assignments.{Covers, IsAssignment}
use Rattle.pn_syntax.specs.declared.declaration.Declaration.{Declaration}
use Rattle.pn_syntax.specs.declared.term.Term.{Term}
use Rattle.pn_syntax.specs.declared.term.TermNode.{TermNode, map-TermNode}
use Rattle.pn_syntax.specs.declared.term.TermNode.TheFolds.{fold-TermNode, fold_out-Term, fold_out-TermNode}
use Rattle.pn_syntax.specs.declared.term.TermNode.TheOpen as layer
use Rattle.pn_syntax.specs.declared.term.TermNode.TheVariants as nodes
use Rattle.pn_syntax.specs.declared.term.TermNode.TheVariants.{rolls-Variable}
use Rattle.pn_syntax.specs.declared.term.TermNode.TheViews.{roll-TermNode, roll-out-TermNode}
use Rattle.pn_terms.specs.declared.term_sort.TermSort.{TermSort}
use Rattle.pn_terms.specs.Sorts.{HasSort, HaveSorts, none, more}
use Rattle.pn_terms.specs.Terms.{IsPart, Layer, inside, itself, layer_of, parts_in, parts_of}
use Rattle.pn_terms.specs.Variables.{variables_in_layer, variables_in_term}
use Rattle.pn_terms.proofs.VariableLemmas.{variables_at}
use Rattle.pn_values.specs.declared.value.Value.{Value}

-- the variables of a term are those of its parts, where it is no variable
by_layer : (items : List Declaration) (e : Term) (l : Layer) → layer_of e ≡ l → HasNoVariable e → flat_map (variables_in_term items) (parts_in l) ≡ [] → variables_in_term items e ≡ []
by_layer items e (layer.Variable name) is free inner = absurd (free e (itself e e refl) name (sym (roll-out-TermNode e.node) ∙ ap roll-TermNode is ∙ rolls-Variable name))
by_layer items e (layer.UserOp name) is free inner = variables_at items e (layer.UserOp name) is
by_layer items e (layer.Bool truth) is free inner = variables_at items e (layer.Bool truth) is
by_layer items e (layer.Number value sort) is free inner = variables_at items e (layer.Number value sort) is
by_layer items e (layer.RangeConst value start end) is free inner = variables_at items e (layer.RangeConst value start end) is
by_layer items e (layer.Text text) is free inner = variables_at items e (layer.Text text) is
by_layer items e (layer.All sort) is free inner = variables_at items e (layer.All sort) is
by_layer items e (layer.Empty sort) is free inner = variables_at items e (layer.Empty sort) is
by_layer items e (layer.EmptyList sort) is free inner = variables_at items e (layer.EmptyList sort) is
by_layer items e (layer.PartitionOf name arg) is free inner = variables_at items e (layer.PartitionOf name arg) is ∙ sym (append-nil (variables_in_term items arg)) ∙ inner
by_layer items e (layer.Apply op args) is free inner = variables_at items e (layer.Apply op args) is ∙ all_joined (variables_in_term items) args ∙ inner

all_ground : (items : List Declaration) (es : List Term) (ss : List TermSort) → HaveSorts items es ss → ((q : Term) → Contains es q → HasNoVariable q) → flat_map (variables_in_term items) es ≡ []
all_ground items es ss (none _ _ is also) each = ap (flat_map (variables_in_term items)) is
all_ground items es ss (more _ _ e rest s others ts is also below gives after) each =
    let own : HasNoVariable e = each e (subst (λ xs. Contains xs e) (sym is) (contains_first e rest)) in
    let inner = all_ground items (parts_of e) ts below (λ q c x part name named. own x (inside e x q c part) name named) in
    let behind = all_ground items rest others after (λ q c. each q (subst (λ xs. Contains xs q) (sym is) (contains_next e rest q c))) in
    ap (flat_map (variables_in_term items)) is ∙ ap (λ vs. vs ++ flat_map (variables_in_term items) rest) (by_layer items e (layer_of e) refl own inner) ∙ behind

-- so no assignment is needed
pub covers_ground : (items : List Declaration) (e : Term) (s : TermSort) → HasSort items e s → HasNoVariable e → Covers items [] e
covers_ground items e s (ts, below, gives) free v c =
    let inner = all_ground items (parts_of e) ts below (λ q d x part name named. free x (inside e x q d part) name named) in
    subst (λ vs. Contains vs v) (by_layer items e (layer_of e) refl free inner) c

pub no_assignment : (items : List Declaration) → IsAssignment items [] []
no_assignment items = record { ascending = λ k small. absurd (omega (arith, small)); size = refl; members = λ v value sort is of_variable. absurd (let no : None ≡ Some value = is in cc) }
