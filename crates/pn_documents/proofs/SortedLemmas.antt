-- It can't be that a term without variables and without faults has a value and no sort.
use Rattle.std.proofs.Common.{◌≡◌, inl, inr, ℕ, Bool, true, false, List, [], ◌∷◌, codes, Option, None, Some, IsSome, IfSome, refl, sym, subst}
use Rattle.std.specs.List.{AllByRecursion, Contains}
use Rattle.pn_documents.proofs.ResolvedLemmas.{has_sort}
use Rattle.pn_eval.specs.Values.{GivesValue, HasValue, HaveValues, IsElementValue}
use Rattle.pn_eval.specs.Values as values_of
use Rattle.pn_facts.proofs.Contained.{contains_first, contains_next}
use Rattle.pn_faults.specs.declared.fault.Fault.{Fault}
use Rattle.pn_faults.specs.declared.reason.Reason.TheVariants as reasons
use Rattle.pn_faults.specs.Order.{fault_at}
use Rattle.pn_names.specs.Names.{IsConstant}
use Rattle.pn_operations.specs.declared.outcome.Outcome.{Outcome}
use Rattle.pn_operations.specs.declared.outcome.Outcome.TheVariants as outcomes
use Rattle.pn_operators.specs.Operators.{name_of}
use Rattle.pn_sorts.proofs.NameLemmas.{constant_is}
use Rattle.pn_sorts.specs.Lookups.{sort_of_constant}
use Rattle.pn_sorts.specs.Standing.{IsFaultless}
use Rattle.pn_syntax.specs.declared.declaration.Declaration.{Declaration}
use Rattle.pn_syntax.specs.declared.term.Term.{Term}
use Rattle.pn_syntax.specs.declared.term.TermNode.TheOpen as layer
use Rattle.pn_terms.specs.Rows.{given_by}
use Rattle.pn_terms.specs.Sorts.{Gives, HasSort, HaveSorts, is_good_number, is_good_text, is_in_range, is_small, more, none}
use Rattle.pn_terms.specs.Standing.{SortStandsAt, SortStandsIn, StandsAlways, StandsIn, StandsWith}
use Rattle.pn_terms.specs.Terms.{IsPart, Layer, inside, itself, layer_of, parts_in, parts_of}
use Rattle.pn_terms.specs.declared.term_sort.TermSort.{TermSort}
use Rattle.pn_terms.specs.declared.term_sort.TermSort.TheVariants as terms
use Rattle.pn_values.specs.Kin.{kin_of}
use Rattle.pn_values.specs.declared.sort.Sort.TheVariants as sorts

-- it can't be that it isn't so
abbrev pub IsSure : Type 0 → Type 0
IsSure P = (P → ⊥) → ⊥

something : {X : Type 0} (o : Option X) → IsSome o → (x : X) × (o ≡ Some x)
something None is = absurd cc
something (Some x) is = (x, refl)

-- a test that doesn't fail
pub passes : (b : Bool) → (b ≡ false → ⊥) → b ≡ true
passes true not = refl
passes false not = absurd (not refl)

-- a value or a multiset
abbrev pub IsThing : Outcome → Type 0
IsThing o = o ≡ outcomes.NoValue → ⊥

module _ (items : List Declaration) (faultless : IsFaultless items) where
  -- no fault of typing stands in a term, and none in the sorts that it writes
  pub record IsSoundTerm (e : Term) : Type 0 where
    pub typing : (f : Fault) → StandsIn items e f → ⊥
    pub sorts : (f : Fault) → SortStandsIn items e f → ⊥

  sound_part : (e p : Term) → Contains (parts_of e) p → IsSoundTerm e → IsSoundTerm p
  sound_part e p c sound = record {
    typing = λ f there. sound.typing f (there.0, inside e there.0 p c there.1, there.2);
    sorts = λ f there. sound.sorts f (there.0, inside e there.0 p c there.1, there.2);
  }

  -- a layer has a sort
  abbrev HasLayerSort : Layer → Type 0
  HasLayerSort l = (s : TermSort) × (ts : List TermSort) × HaveSorts items (parts_in l) ts × Gives items l ts s

  -- no fault stands at a layer at this offset, whatever sorts its parts have
  record IsSoundLayer (l : Layer) (at : ℕ) : Type 0 where
    always : (f : Fault) → StandsAlways items l at f → ⊥
    with_parts : (f : Fault) (ts : List TermSort) → HaveSorts items (parts_in l) ts → StandsWith items l ts at f → ⊥
    sorts : (f : Fault) → SortStandsAt items l f → ⊥

  sound_layer : (e : Term) → IsSoundTerm e → IsSoundLayer (layer_of e) e.at
  sound_layer e sound = record {
    always = λ f is. sound.typing f (e, itself e e refl, inl is);
    with_parts = λ f ts have is. sound.typing f (e, itself e e refl, inr (ts, have, is));
    sorts = λ f is. sound.sorts f (e, itself e e refl, is);
  }

  -- a leaf
  leaf : (l : Layer) → parts_in l ≡ [] → (s : TermSort) → Gives items l [] s → HasLayerSort l
  leaf l alone s gives = (s, [], none (parts_in l) [] alone refl, gives)

  constant_sorted : (name : List ℕ) (o : Outcome) → values_of.IsConstantValue items name o → HasLayerSort (layer.UserOp name)
  constant_sorted name o (c, named, is) =
      let known : IfSome (Some c) (λ x. IsConstant items x × IsSome (sort_of_constant items x)) = constant_is items name (Some c) (sym named) in
      let sort = something (sort_of_constant items c) known.1 in
      leaf (layer.UserOp name) refl (terms.Basis sort.0) (c, sort.0, named, sort.1, refl)

  -- where its parts have sorts, if they have values; an operator has a value only where its arguments have sorts
  layer_sorted : (l : Layer) (at : ℕ) → IsSoundLayer l at → ((name : List ℕ) → l ≡ layer.Variable name → ⊥) → (os : List Outcome) (o : Outcome) → GivesValue items [] [] l os o → IsThing o
      → ((AllByRecursion IsThing os → IsSure ((ts : List TermSort) × HaveSorts items (parts_in l) ts))) → IsSure (HasLayerSort l)
  layer_sorted (layer.Variable name) at sound ground os o gives thing parts not = ground name refl
  layer_sorted (layer.UserOp name) at sound ground os o gives thing parts not = not (constant_sorted name o gives)
  layer_sorted (layer.Bool truth) at sound ground os o gives thing parts not = not (leaf (layer.Bool truth) refl (terms.Basis sorts.Bool) refl)
  layer_sorted (layer.Number value sort) at sound ground os o gives thing parts not =
      not (leaf (layer.Number value sort) refl (terms.Basis sorts.Integer) (passes (is_good_number items value sort) (λ bad. sound.always (fault_at reasons.BadConstant at (codes "numberconstant")) (bad, refl)), refl))
  layer_sorted (layer.RangeConst value start end) at sound ground os o gives thing parts not =
      not (leaf (layer.RangeConst value start end) refl (terms.Basis (sorts.Range start end)) (passes (is_in_range items value start end) (λ bad. sound.always (fault_at reasons.BadConstant at (codes "finiteintrangeconstant")) (bad, refl)), refl))
  layer_sorted (layer.Text text) at sound ground os o gives thing parts not =
      not (leaf (layer.Text text) refl (terms.Basis sorts.Text) (passes (is_good_text items text) (λ bad. sound.always (fault_at reasons.BadConstant at (codes "stringconstant")) (bad, refl)), refl))
  layer_sorted (layer.All e) at sound ground os o gives thing parts not =
      not (leaf (layer.All e) refl (terms.Bag (kin_of gives.0)) (gives.0, gives.1, passes (is_small items gives.0) (λ bad. sound.always (fault_at reasons.AllTooLarge at (codes "all")) (gives.0, gives.1, bad, refl)), refl))
  layer_sorted (layer.Empty e) at sound ground os o gives thing parts not =
      let has = has_sort items faultless e sound.sorts in
      not (leaf (layer.Empty e) refl (terms.Bag (kin_of has.0)) (has.0, has.1, refl))
  layer_sorted (layer.EmptyList e) at sound ground os o gives thing parts not =
      let has = has_sort items faultless e sound.sorts in
      not (leaf (layer.EmptyList e) refl (terms.Basis (sorts.List (kin_of has.0))) (has.0, has.1, refl))
  layer_sorted (layer.PartitionOf name arg) at sound ground os o (p, is, gives) thing parts not = by p is gives
    where
      by : (p : Outcome) → os ≡ p ∷ [] → IsElementValue items name p o → ⊥
      by outcomes.NoValue is gives = thing gives
      by (outcomes.Bag bag) is gives = gives
      by (outcomes.Value value) is (q, number, named, listed, result) = parts (subst (AllByRecursion IsThing) (sym is) ((λ bad. cc), tt)) (λ have.
          let base = listed.0 in
          sound.with_parts (fault_at reasons.WrongSort at (codes "partitionelementof")) have.0 have.1
          (q, base, named, listed.2, (λ same. not (terms.Basis (sorts.Partition q), have.0, have.1, (q, base, named, listed.2, same, refl))), refl))
  layer_sorted (layer.Apply op args) at sound ground os o (round, goes, result) thing parts not =
      sound.with_parts (fault_at reasons.WrongSort at (name_of op)) goes.0 goes.1 ((λ fits. not (given_by op goes.0, goes.0, goes.1, (fits, refl))), refl)

  -- no variable stands in a term
  abbrev IsGround : Term → Type 0
  IsGround e = (x : Term) → IsPart e x → (name : List ℕ) → layer_of x ≡ layer.Variable name → ⊥

  abbrev IsGood : Term → Type 0
  IsGood e = IsSoundTerm e × IsGround e

  good_part : (e p : Term) → Contains (parts_of e) p → IsGood e → IsGood p
  good_part e p c good = (sound_part e p c good.0, λ x part. good.1 x (inside e x p c part))

  term_sorted : (e : Term) → IsGood e → (os : List Outcome) (o : Outcome) → GivesValue items [] [] (layer_of e) os o → IsThing o
      → ((AllByRecursion IsThing os → IsSure ((ts : List TermSort) × HaveSorts items (parts_of e) ts))) → IsSure (HasLayerSort (layer_of e))
  term_sorted e good os o gives thing parts = layer_sorted (layer_of e) e.at (sound_layer e good.0) (good.1 e (itself e e refl)) os o gives thing parts

  sorted_parts : (es : List Term) (os : List Outcome) → HaveValues items [] [] es os → ((e : Term) → Contains es e → IsGood e) → AllByRecursion IsThing os → IsSure ((ts : List TermSort) × HaveSorts items es ts)
  sorted_parts es os (values_of.none _ _ is_es is_os) good things not = not ([], none es [] is_es refl)
  sorted_parts es os (values_of.more _ _ e rest o others ps is_es is_os below gives have) good things not =
      let own : AllByRecursion IsThing (o ∷ others) = subst (AllByRecursion IsThing) is_os things in
      let each : (x : Term) → Contains (e ∷ rest) x → IsGood x = subst (λ xs. (x : Term) → Contains xs x → IsGood x) is_es good in
      let first : IsGood e = each e (contains_first e rest) in
      term_sorted e first ps o gives own.0 (sorted_parts (parts_of e) ps below (λ x c. good_part e x c first)) (λ head.
      sorted_parts rest others have (λ x c. each x (contains_next e rest x c)) own.1 (λ tail.
      not (head.0 ∷ tail.0, more es (head.0 ∷ tail.0) e rest head.0 tail.0 head.1 is_es refl head.2 head.3 tail.1)))

  pub sorted : (e : Term) (o : Outcome) → HasValue items [] [] e o → IsThing o → IsSoundTerm e → IsGround e → IsSure ((s : TermSort) × HasSort items e s)
  sorted e o (os, have, gives) thing sound ground not =
      term_sorted e (sound, ground) os o gives thing (sorted_parts (parts_of e) os have (λ x c. good_part e x c (sound, ground))) (λ has. not (has.0, (has.1, has.2, has.3)))
