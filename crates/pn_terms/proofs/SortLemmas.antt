-- A term has at most one sort, and where it has one, no fault stands in it.
use Rattle.std.proofs.Common.{◌≡◌, ◌⊎◌, inl, inr, ℕ, List, [], ◌∷◌, true, false, Option, Some, None, Result, Err, sym, ap, ◌∙◌, subst}
use Rattle.std.specs.List.{Contains}
use Rattle.pn_faults.specs.declared.fault.Fault.{Fault}
use Rattle.pn_faults.specs.declared.fault.Refusal.{Refusal}
use Rattle.pn_faults.specs.declared.fault.Refusal.TheVariants as refusals
use Rattle.pn_faults.specs.Walks.{StandsInSome}
use Rattle.pn_syntax.specs.declared.declaration.Declaration.{Declaration}
use Rattle.pn_values.specs.declared.sort.Sort.{Sort}
use Rattle.pn_values.specs.declared.sort.Sort.TheVariants as sorts
use Rattle.pn_syntax.specs.declared.sort_expr.SortExpr.{SortExpr}
use Rattle.pn_values.specs.Kin.{kin_of}
use Rattle.pn_resolve.specs.Meaning.{Resolves}
use Rattle.pn_facts.proofs.Contained.{contains_nil, contains_cases}
use Rattle.pn_resolve.proofs.Meanings.{resolves_once}
use Rattle.pn_resolve.specs.Standing.{StandsInSort as SortFault}
use Rattle.pn_sorts.specs.Standing.{IsFaultless}
use Rattle.pn_sorts.specs.Keeping.{IsRefusedFor}
use Rattle.pn_sorts.specs.Lookups.{IsBaseSort, IsVariableSort, sort_of_constant}
use Rattle.pn_syntax.specs.declared.term.Term.{Term}
use Rattle.pn_terms.specs.declared.term_sort.TermSort.{TermSort}
use Rattle.pn_terms.specs.declared.term_sort.TermSort.TheVariants as terms
use Rattle.pn_syntax.specs.declared.term.TermNode.TheOpen as layer
use Rattle.pn_terms.specs.Sorts.{Gives, HasSort, HaveSorts, none, more, is_small}
use Rattle.pn_terms.specs.Standing.{StandsAlways, StandsWith, StandsAt, StandsIn}
use Rattle.pn_terms.specs.Terms.{IsPart, itself, inside, Layer, layer_of, parts_of}

pub same_some : {A : Type 0} (a b : A) (o : Option A) → o ≡ Some a → o ≡ Some b → a ≡ b
same_some a b o h k = let same : Some a ≡ Some b = sym h ∙ k in cc

some_is_not_none : {A : Type 0} (a : A) (o : Option A) → o ≡ Some a → o ≡ None → ⊥
some_is_not_none a o h k = let bad : Some a ≡ None = sym h ∙ k in cc

pub true_is_not_false : (b : _) → b ≡ true → b ≡ false → ⊥
true_is_not_false b h k = let bad : true ≡ false = sym h ∙ k in cc

pub variable_once : (items : List Declaration) (v : ℕ) (s t : Sort) → IsVariableSort items v s → IsVariableSort items v t → s ≡ t
variable_once items v s t (x, is, has) (y, is', has') =
    let same = same_some x y _ is is' in resolves_once items y.sort s t (subst (λ z. Resolves items z.sort s) same has) has'

pub base_once : (items : List Declaration) (p : ℕ) (s t : Sort) → IsBaseSort items p s → IsBaseSort items p t → s ≡ t
base_once items p s t (x, is, has) (y, is', has') =
    let same = same_some x y _ is is' in resolves_once items y s t (subst (λ z. Resolves items z s) same has) has'

pub same_basis : (s t : Sort) → terms.Basis s ≡ terms.Basis t → s ≡ t
same_basis s t is = cc

pub bag_is_no_basis : (s t : Sort) → terms.Bag s ≡ terms.Basis t → ⊥
bag_is_no_basis s t is = cc

pub same_fault : {T : Type 0} (f g : Fault) → ◌≡◌ {A = Result T Refusal} (Err (refusals.Fault f)) (Err (refusals.Fault g)) → f ≡ g
same_fault f g is = cc

-- where the declarations have no fault, and none stands in an expression, it is not refused
pub not_refused : (items : List Declaration) (e : SortExpr) (f : Fault) → IsFaultless items → ((g : Fault) → SortFault items e g → ⊥) → IsRefusedFor items e f → ⊥
not_refused items e f faultless sound (inl least) = sound f least.0
not_refused items e f faultless sound (inr refused) = faultless f refused.2.0

-- a layer has at most one sort by those of its parts
gives_once : (items : List Declaration) (l : Layer) (ts : List TermSort) (s t : TermSort) → Gives items l ts s → Gives items l ts t → s ≡ t
gives_once items (layer.Variable name) ts s t (v, sort, is, has, given) (v', sort', is', has', given') =
    let same = same_some v v' _ is is' in
    let sorts = variable_once items v' sort sort' (subst (λ n. IsVariableSort items n sort) same has) has' in
    given ∙ ap (λ x. terms.Basis (kin_of x)) sorts ∙ sym given'
gives_once items (layer.UserOp name) ts s t (c, sort, is, has, given) (c', sort', is', has', given') =
    let same = same_some c c' _ is is' in
    let sorts = same_some sort sort' (sort_of_constant items c') (ap (sort_of_constant items) (sym same) ∙ has) has' in
    given ∙ ap terms.Basis sorts ∙ sym given'
gives_once items (layer.Bool truth) ts s t h k = h ∙ sym k
gives_once items (layer.Number value sort) ts s t h k = h.1 ∙ sym k.1
gives_once items (layer.RangeConst value start end) ts s t h k = h.1 ∙ sym k.1
gives_once items (layer.Text text) ts s t h k = h.1 ∙ sym k.1
gives_once items (layer.All e) ts s t (sort, has, small, given) (sort', has', small', given') =
    given ∙ ap (λ x. terms.Bag (kin_of x)) (resolves_once items e sort sort' has has') ∙ sym given'
gives_once items (layer.Empty e) ts s t (sort, has, given) (sort', has', given') =
    given ∙ ap (λ x. terms.Bag (kin_of x)) (resolves_once items e sort sort' has has') ∙ sym given'
gives_once items (layer.EmptyList e) ts s t (sort, has, given) (sort', has', given') =
    given ∙ ap (λ x. terms.Basis (sorts.List (kin_of x))) (resolves_once items e sort sort' has has') ∙ sym given'
gives_once items (layer.PartitionOf name arg) ts s t (p, base, is, has, fit, given) (p', base', is', has', fit', given') =
    given ∙ ap (λ x. terms.Basis (sorts.Partition x)) (same_some p p' _ is is') ∙ sym given'
gives_once items (layer.Apply op args) ts s t h k = h.1 ∙ sym k.1

-- a layer with a sort has no fault
pub sorted_not_always : (items : List Declaration) (l : Layer) (ts : List TermSort) (s : TermSort) (at : ℕ) (f : Fault) → Gives items l ts s → StandsAlways items l at f → ⊥
sorted_not_always items (layer.Variable name) ts s at f (v, sort, is, has, given) h = some_is_not_none v _ is h.0
sorted_not_always items (layer.UserOp name) ts s at f (c, sort, is, has, given) h = some_is_not_none c _ is h.0
sorted_not_always items (layer.Bool truth) ts s at f given h = h
sorted_not_always items (layer.Number value sort) ts s at f given h = true_is_not_false _ given.0 h.0
sorted_not_always items (layer.RangeConst value start end) ts s at f given h = true_is_not_false _ given.0 h.0
sorted_not_always items (layer.Text text) ts s at f given h = true_is_not_false _ given.0 h.0
sorted_not_always items (layer.All e) ts s at f (sort, has, small, given) (sort', has', large, is) =
    true_is_not_false _ small (ap (is_small items) (resolves_once items e sort sort' has has') ∙ large)
sorted_not_always items (layer.Empty e) ts s at f given h = h
sorted_not_always items (layer.EmptyList e) ts s at f given h = h
sorted_not_always items (layer.PartitionOf name arg) ts s at f (p, base, is, has, fit, given) h = some_is_not_none p _ is h.0
sorted_not_always items (layer.Apply op args) ts s at f given h = h

pub sorted_not_with : (items : List Declaration) (l : Layer) (ts : List TermSort) (s : TermSort) (at : ℕ) (f : Fault) → Gives items l ts s → StandsWith items l ts at f → ⊥
sorted_not_with items (layer.Variable name) ts s at f given h = h
sorted_not_with items (layer.UserOp name) ts s at f given h = h
sorted_not_with items (layer.Bool truth) ts s at f given h = h
sorted_not_with items (layer.Number value sort) ts s at f given h = h
sorted_not_with items (layer.RangeConst value start end) ts s at f given h = h
sorted_not_with items (layer.Text text) ts s at f given h = h
sorted_not_with items (layer.All e) ts s at f given h = h
sorted_not_with items (layer.Empty e) ts s at f given h = h
sorted_not_with items (layer.EmptyList e) ts s at f given h = h
sorted_not_with items (layer.PartitionOf name arg) ts s at f (p, base, is, has, fit, given) (p', base', is', has', unfit, told) =
    let same = same_some p p' _ is is' in
    unfit (fit ∙ ap (λ x. terms.Basis x ∷ []) (base_once items p' base base' (subst (λ n. IsBaseSort items n base) same has) has'))
sorted_not_with items (layer.Apply op args) ts s at f given h = h.0 given.0

-- a layer has at most one fault
pub always_once : (items : List Declaration) (l : Layer) (at : ℕ) (f g : Fault) → StandsAlways items l at f → StandsAlways items l at g → g ≡ f
always_once items (layer.Variable name) at f g h k = k.1 ∙ sym h.1
always_once items (layer.UserOp name) at f g h k = k.1 ∙ sym h.1
always_once items (layer.Bool truth) at f g h k = absurd h
always_once items (layer.Number value sort) at f g h k = k.1 ∙ sym h.1
always_once items (layer.RangeConst value start end) at f g h k = k.1 ∙ sym h.1
always_once items (layer.Text text) at f g h k = k.1 ∙ sym h.1
always_once items (layer.All e) at f g (sort, has, large, is) (sort', has', large', is') = is' ∙ sym is
always_once items (layer.Empty e) at f g h k = absurd h
always_once items (layer.EmptyList e) at f g h k = absurd h
always_once items (layer.PartitionOf name arg) at f g h k = k.1 ∙ sym h.1
always_once items (layer.Apply op args) at f g h k = absurd h

pub with_once : (items : List Declaration) (l : Layer) (ts : List TermSort) (at : ℕ) (f g : Fault) → StandsWith items l ts at f → StandsWith items l ts at g → g ≡ f
with_once items (layer.Variable name) ts at f g h k = absurd h
with_once items (layer.UserOp name) ts at f g h k = absurd h
with_once items (layer.Bool truth) ts at f g h k = absurd h
with_once items (layer.Number value sort) ts at f g h k = absurd h
with_once items (layer.RangeConst value start end) ts at f g h k = absurd h
with_once items (layer.Text text) ts at f g h k = absurd h
with_once items (layer.All e) ts at f g h k = absurd h
with_once items (layer.Empty e) ts at f g h k = absurd h
with_once items (layer.EmptyList e) ts at f g h k = absurd h
with_once items (layer.PartitionOf name arg) ts at f g (p, base, is, has, unfit, told) (p', base', is', has', unfit', told') = told' ∙ sym told
with_once items (layer.Apply op args) ts at f g h k = k.1 ∙ sym h.1

pub always_not_with : (items : List Declaration) (l : Layer) (ts : List TermSort) (at : ℕ) (f g : Fault) → StandsAlways items l at f → StandsWith items l ts at g → ⊥
always_not_with items (layer.Variable name) ts at f g h k = k
always_not_with items (layer.UserOp name) ts at f g h k = k
always_not_with items (layer.Bool truth) ts at f g h k = k
always_not_with items (layer.Number value sort) ts at f g h k = k
always_not_with items (layer.RangeConst value start end) ts at f g h k = k
always_not_with items (layer.Text text) ts at f g h k = k
always_not_with items (layer.All e) ts at f g h k = k
always_not_with items (layer.Empty e) ts at f g h k = k
always_not_with items (layer.EmptyList e) ts at f g h k = k
always_not_with items (layer.PartitionOf name arg) ts at f g h (p, base, is, has, unfit, told) = some_is_not_none p _ is h.0
always_not_with items (layer.Apply op args) ts at f g h k = h

-- no terms have no sorts
pub empty_have : (items : List Declaration) (es : List Term) (ts : List TermSort) → es ≡ [] → HaveSorts items es ts → ts ≡ []
empty_have items es ts is (none _ _ is_es is_ts) = is_ts
empty_have items es ts is (more _ _ e rest s others us is_es is_ts parts gives have) = absurd (let bad : [] ≡ e ∷ rest = sym is ∙ is_es in cc)

-- the sort of the first of some terms, and those of the others
pub record FirstHas (items : List Declaration) (e : Term) (rest : List Term) (ts : List TermSort) : Type 0 where
  pub sort : TermSort
  pub others : List TermSort
  pub below : List TermSort
  pub whole : ts ≡ sort ∷ others
  pub parts : HaveSorts items (parts_of e) below
  pub gives : Gives items (layer_of e) below sort
  pub have : HaveSorts items rest others

pub first_have : (items : List Declaration) (es : List Term) (e : Term) (rest : List Term) (ts : List TermSort) → es ≡ e ∷ rest → HaveSorts items es ts → FirstHas items e rest ts
first_have items es e rest ts is (none _ _ is_es is_ts) = absurd (let bad : [] ≡ e ∷ rest = sym is_es ∙ is in cc)
first_have items es e rest ts is (more _ _ e' rest' s others us is_es is_ts parts gives have) =
    let same : e' ∷ rest' ≡ e ∷ rest = sym is_es ∙ is in
    let head : e' ≡ e = cc in
    let tail : rest' ≡ rest = cc in
    record {
      sort = s;
      others = others;
      below = us;
      whole = is_ts;
      parts = subst (λ x. HaveSorts items (parts_of x) us) head parts;
      gives = subst (λ x. Gives items (layer_of x) us s) head gives;
      have = subst (λ xs. HaveSorts items xs others) tail have;
    }

-- terms have their sorts in one way
pub sorts_agree : (items : List Declaration) (es : List Term) (ss ts : List TermSort) → HaveSorts items es ss → HaveSorts items es ts → ss ≡ ts
sorts_agree items es ss ts (none _ _ is_es is_ss) h = is_ss ∙ sym (empty_have items es ts is_es h)
sorts_agree items es ss ts (more _ _ e rest s others us is_es is_ss parts gives have) h =
    let x = first_have items es e rest ts is_es h in
    let below : us ≡ x.below = sorts_agree items (parts_of e) us x.below parts x.parts in
    let first : s ≡ x.sort = gives_once items (layer_of e) x.below s x.sort (subst (λ vs. Gives items (layer_of e) vs s) below gives) x.gives in
    let next : others ≡ x.others = sorts_agree items rest others x.others have x.have in
    is_ss ∙ ap (λ y. y ∷ others) first ∙ ap (λ ys. x.sort ∷ ys) next ∙ sym x.whole

pub sort_once : (items : List Declaration) (e : Term) (s t : TermSort) → HasSort items e s → HasSort items e t → s ≡ t
sort_once items e s t (ss, have, gives) (ts, have', gives') =
    gives_once items (layer_of e) ts s t (subst (λ vs. Gives items (layer_of e) vs s) (sorts_agree items (parts_of e) ss ts have have') gives) gives'

-- each of some terms that have sorts has one
pub have_each : (items : List Declaration) (es : List Term) (ss : List TermSort) → HaveSorts items es ss → (e : Term) → Contains es e → (s : TermSort) × HasSort items e s
have_each items es ss (none _ _ is_es is_ss) e c = absurd (contains_nil e (subst (λ xs. Contains xs e) is_es c))
have_each items es ss (more _ _ x rest s others us is_es is_ss parts gives have) e c =
    step (contains_cases x rest e (subst (λ xs. Contains xs e) is_es c)) (have_each items rest others have e)
  where
    step : (x ≡ e) ⊎ Contains rest e → (Contains rest e → (t : TermSort) × HasSort items e t) → (t : TermSort) × HasSort items e t
    step (inl same) next = (s, subst (λ y. HasSort items y s) same (us, parts, gives))
    step (inr there) next = next there

-- each term in a term that has a sort has one
pub part_has : (items : List Declaration) (e x : Term) → IsPart e x → (s : TermSort) → HasSort items e s → (t : TermSort) × HasSort items x t
part_has items e x (itself _ _ same) s h = (s, subst (λ y. HasSort items y s) (sym same) h)
part_has items e x (inside _ _ p c rest) s h = let part = have_each items (parts_of e) h.0 h.1 p c in part_has items p x rest part.0 part.1

at_none : (items : List Declaration) (e : Term) (s : TermSort) (f : Fault) → HasSort items e s → StandsAt items e f → ⊥
at_none items e s f (ss, have, gives) (inl always) = sorted_not_always items (layer_of e) ss s e.at f gives always
at_none items e s f (ss, have, gives) (inr (ts, have', stands)) =
    sorted_not_with items (layer_of e) ts s e.at f (subst (λ vs. Gives items (layer_of e) vs s) (sorts_agree items (parts_of e) ss ts have have') gives) stands

-- where a term has a sort, no fault stands in it
pub sorted_no_fault : (items : List Declaration) (e : Term) (s : TermSort) (f : Fault) → HasSort items e s → StandsIn items e f → ⊥
sorted_no_fault items e s f h (x, part, stands) = let has = part_has items e x part s h in at_none items x has.0 f has.1 stands

pub all_sorted_no_fault : (items : List Declaration) (es : List Term) (ss : List TermSort) (f : Fault) → HaveSorts items es ss → StandsInSome (StandsIn items) es f → ⊥
all_sorted_no_fault items es ss f h (e, c, stands) = let has = have_each items es ss h e c in sorted_no_fault items e has.0 f has.1 stands
