-- What is kept of the labels at a place: of an initial marking, its value among it, and of an inscription.
use Rattle.std.proofs.Common.{◌≡◌, ◌⊎◌, ◌↔◌, inl, inr, ℕ, List, [], ◌∷◌, Bool, true, false, codes, Option, Some, None, IfSome, IsTrue, refl, sym, ap, ◌∙◌, subst}
use Rattle.std.specs.List.{Contains, slice_get}
use Rattle.std.proofs.lemmas.Bool.{false≢true}
use Rattle.pn_faults.specs.declared.fault.Fault.{Fault}
use Rattle.pn_faults.specs.declared.reason.Reason.TheVariants as reasons
use Rattle.pn_faults.specs.Least.{lower, lower_of}
use Rattle.pn_faults.specs.Standing.{IsLeastOf}
use Rattle.pn_faults.specs.Order.{fault_at}
use Rattle.pn_faults.specs.Walks.{KeepsLeast}
use Rattle.pn_faults.proofs.WalkLemmas.{keeps_alike, keeps_both, keeps_nothing, keeps_one}
use Rattle.pn_checks.specs.Initial.{IsFirstBy}
use Rattle.pn_checks.specs.LabelFaults.{AtPlaceStands, InscriptionStands, IsExamined, IsVariableIn, LabelStands, MarkingStands, RightOrFault}
use Rattle.pn_checks.specs.NoValue.{AreOfSort, HasNoVariable, IsNoValueOf, LacksValue, SaysMultiset}
use Rattle.pn_eval.specs.Outcomes.{multiset_of}
use Rattle.pn_checks.specs.Tokens.{Gets, HasTokens, HasTokensBy, number_tokens}
use Rattle.pn_eval.specs.Values.{HasValue}
use Rattle.pn_net.specs.Labels.{IsPlaceSort, IsSortBy, said}
use Rattle.pn_net.specs.Typing.{IsTermOver}
use Rattle.pn_net.specs.declared.token.Token.{Token}
use Rattle.pn_objects.specs.declared.object.Place.{Place}
use Rattle.pn_operations.specs.declared.outcome.Outcome.{Outcome}
use Rattle.pn_resolve.proofs.Meanings.{resolves_once}
use Rattle.pn_syntax.specs.declared.declaration.Declaration.{Declaration}
use Rattle.pn_syntax.specs.declared.sort_expr.SortExpr.{SortExpr}
use Rattle.pn_syntax.specs.declared.term.Term.{Term}
use Rattle.pn_pages.proofs.TellingLemmas.{none_lower}
use Rattle.pn_terms.proofs.SortLemmas.{sort_once, sorted_no_fault}
use Rattle.pn_terms.specs.declared.term_sort.TermSort.{TermSort}
use Rattle.pn_terms.specs.Sorts.{HasSort}
use Rattle.pn_terms.specs.Standing.{StandsIn}
use Rattle.pn_values.specs.declared.sort.Sort.{Sort}
use Rattle.pn_values.specs.declared.value.Value.{Value}

sort_by_once : (items : List Declaration) (o : Option SortExpr) (s t : Sort) → IsSortBy items o s → IsSortBy items o t → s ≡ t
sort_by_once items None s t is also = is ∙ sym also
sort_by_once items (Some e) s t is also = resolves_once items e s t is also

-- a place has one sort
pub place_sort_once : (items : List Declaration) (p : Place) (s t : Sort) → IsPlaceSort items p s → IsPlaceSort items p t → s ≡ t
place_sort_once items p s t is also = sort_by_once items (said p.sort) s t is also

-- where none is kept, none stands, and none was kept before
pub none_stands : (P : Fault → Type 0) (old new : Option Fault) → KeepsLeast P old new → new ≡ None → (f : Fault) → P f → ⊥
none_stands P old new keeps none = subst (IsLeastOf P) (none_lower old keeps.own (sym keeps.is_lower ∙ none)).1 keeps.is_least

pub none_before : (P : Fault → Type 0) (old new : Option Fault) → KeepsLeast P old new → new ≡ None → old ≡ None
none_before P old new keeps none = (none_lower old keeps.own (sym keeps.is_lower ∙ none)).0

-- a term at a place of this sort
module _ (items : List Declaration) (p : Place) (sort : Sort) (is_sort : IsPlaceSort items p sort) (label : List ℕ) (e : Term) where
  to_place : (f : Fault) → LabelStands items (IsTermOver sort) label e f → AtPlaceStands items p label e f
  to_place f (inl stands) = inl stands
  to_place f (inr other) = inr (sort, is_sort, other)

  from_place : (f : Fault) → AtPlaceStands items p label e f → LabelStands items (IsTermOver sort) label e f
  from_place f (inl stands) = inl stands
  from_place f (inr (own, is_own, (s, has, differs, is))) = inr (s, has, (λ over. differs (subst (λ q. IsTermOver q s) (place_sort_once items p sort own is_sort is_own) over)), is)

  pub at_place : (old new : Option Fault) → KeepsLeast (LabelStands items (IsTermOver sort) label e) old new → KeepsLeast (AtPlaceStands items p label e) old new
  at_place old new keeps = keeps_alike (LabelStands items (IsTermOver sort) label e) (AtPlaceStands items p label e) old new to_place from_place keeps

-- the place of an arc is the one of its number
pub of_inscription : (items : List Declaration) (places : List Place) (i : ℕ) (p : Place) (sort : Sort) (e : Term) → slice_get places i ≡ Some p → IsPlaceSort items p sort → (old new : Option Fault)
    → KeepsLeast (LabelStands items (IsTermOver sort) (codes "hlinscription") e) old new → KeepsLeast (InscriptionStands items places i e) old new
of_inscription items places i p sort e got is_sort old new keeps =
    keeps_alike (AtPlaceStands items p (codes "hlinscription") e) (InscriptionStands items places i e) old new (λ f h. (p, got, h)) from
    (at_place items p sort is_sort (codes "hlinscription") e old new keeps)
  where
    from : (f : Fault) → InscriptionStands items places i e f → AtPlaceStands items p (codes "hlinscription") e f
    from f (q, also, h) = let same : q ≡ p = (let both : Some q ≡ Some p = sym also ∙ got in cc) in subst (λ r. AtPlaceStands items r (codes "hlinscription") e f) same h

-- ---- an initial marking

abbrev pub IsRight : List Declaration → Sort → Term → Type 0
IsRight items sort e = (s : TermSort) × HasSort items e s × IsTermOver sort s

abbrev pub OfMarking : List Declaration → Sort → Term → Fault → Type 0
OfMarking items sort e = LabelStands items (IsTermOver sort) (codes "hlinitialMarking") e

module _ (items : List Declaration) (sort : Sort) (e : Term) where
  pub marking_all : (p : Place) → IsPlaceSort items p sort → (a b c d : Option Fault) → KeepsLeast (OfMarking items sort e) a b → KeepsLeast (IsVariableIn e) b c → KeepsLeast (IsNoValueOf items p e) c d
      → KeepsLeast (MarkingStands items p e) a d
  marking_all p is_sort a b c d first second third =
      keeps_both (λ f. AtPlaceStands items p (codes "hlinitialMarking") e f ⊎ IsVariableIn e f) (IsNoValueOf items p e) a c d
      (keeps_both (AtPlaceStands items p (codes "hlinitialMarking") e) (IsVariableIn e) a b c (at_place items p sort is_sort (codes "hlinitialMarking") e a b first) second) third

  -- where it is wrong, or has variables, it isn't asked for a value
  wrong_no_value : (p : Place) → IsPlaceSort items p sort → (g : Fault) → OfMarking items sort e g → LacksValue items p e → ⊥
  wrong_no_value p is_sort g (inl stands) lacks = sorted_no_fault items e lacks.sort g lacks.has_sort stands
  wrong_no_value p is_sort g (inr (s, has, differs, is)) lacks =
      differs (subst (IsTermOver sort) (sort_once items e lacks.sort s lacks.has_sort has)
      (subst (λ q. IsTermOver q lacks.sort) (place_sort_once items p lacks.place_sort sort lacks.of_place is_sort) lacks.right))

  pub no_value_asked : (p : Place) → IsPlaceSort items p sort → (x y : Bool) → RightOrFault (IsRight items sort e) (OfMarking items sort e) x → RightOrFault (HasNoVariable e) (IsVariableIn e) y → (x ≡ true → y ≡ true → ⊥)
      → (old : Option Fault) → KeepsLeast (IsNoValueOf items p e) old old
  no_value_asked p is_sort true true r s never old = absurd (never refl refl)
  no_value_asked p is_sort false y (g, stands) s never old = keeps_nothing (IsNoValueOf items p e) old (λ f lacks. wrong_no_value p is_sort g stands lacks.0)
  no_value_asked p is_sort true false r (g, (x, part, name, named, told)) never old = keeps_nothing (IsNoValueOf items p e) old (λ f lacks. lacks.0.no_variable x part name named)

  -- and then some fault was kept
  pub fault_kept : (x y : Bool) (a b c : Option Fault) → IsExamined (IsRight items sort e) (OfMarking items sort e) x a b → IsExamined (HasNoVariable e) (IsVariableIn e) y b c → (x ≡ true → y ≡ true → ⊥) → c ≡ None → ⊥
  fault_kept x y a b c first second never none = by x y refl refl first.answered second.answered
    where
      by : (v w : Bool) → x ≡ v → y ≡ w → RightOrFault (IsRight items sort e) (OfMarking items sort e) v → RightOrFault (HasNoVariable e) (IsVariableIn e) w → ⊥
      by true true p q r s = never p q
      by false w p q (g, stands) s = none_stands (OfMarking items sort e) a b first.least (none_before (IsVariableIn e) b c second.least none) g stands
      by true false p q r (g, stands) = none_stands (IsVariableIn e) b c second.least none g stands

  -- ---- its value

  module _ (once : (o p : Outcome) → HasValue items [] [] e o → HasValue items [] [] e p → o ≡ p) (o : Outcome) (value : HasValue items [] [] e o) where
    has_by : (m : Option (List (Value × ℕ))) (bag : List (Value × ℕ)) → m ≡ Some bag → AreOfSort items sort bag → HasTokensBy items sort m
    has_by None bag is all = absurd (let no : None ≡ Some bag = is in cc)
    has_by (Some own) bag is all = let same : own ≡ bag = (let both : Some own ≡ Some bag = is in cc) in subst (AreOfSort items sort) (sym same) all

    bag_by : (m : Option (List (Value × ℕ))) → HasTokensBy items sort m → (bag : List (Value × ℕ)) × (m ≡ Some bag) × AreOfSort items sort bag
    bag_by None has = absurd has
    bag_by (Some bag) has = (bag, refl, has)

    says_has : (bag : List (Value × ℕ)) → SaysMultiset items e bag → AreOfSort items sort bag → HasTokens items sort o
    says_has bag (p, also, is) all = has_by (multiset_of o) bag (ap multiset_of (once o p value also) ∙ is) all

    pub value_there : HasTokens items sort o → (p : Place) → IsPlaceSort items p sort → (old : Option Fault) → KeepsLeast (IsNoValueOf items p e) old old
    value_there has p is_sort old =
        keeps_nothing (IsNoValueOf items p e) old
        (λ f lacks. let found = bag_by (multiset_of o) has in
        lacks.0.none found.0 (o, value, found.1) (subst (λ q. AreOfSort items q found.0) (place_sort_once items p sort lacks.0.place_sort is_sort lacks.0.of_place) found.2))

    pub value_gets : HasTokens items sort o → (i : ℕ) (old new : List (Token × ℕ)) → IfSome (multiset_of o) (λ bag. Gets i bag old new) → (bag : List (Value × ℕ)) × SaysMultiset items e bag × Gets i bag old new
    value_gets has i old new gets = by (multiset_of o) refl has gets
      where
        by : (m : Option (List (Value × ℕ))) → multiset_of o ≡ m → HasTokensBy items sort m → IfSome m (λ bag. Gets i bag old new) → (bag : List (Value × ℕ)) × SaysMultiset items e bag × Gets i bag old new
        by None is has gets = absurd has
        by (Some bag) is has gets = (bag, (o, value, is), gets)

    pub value_missing : (HasTokens items sort o → ⊥) → IsRight items sort e → HasNoVariable e → (p : Place) → IsPlaceSort items p sort → (old new : Option Fault)
        → new ≡ lower old (Some (fault_at reasons.NoValue e.at (codes "hlinitialMarking"))) → KeepsLeast (IsNoValueOf items p e) old new
    value_missing lacks (s, has, over) ground p is_sort old new is =
        keeps_one (IsNoValueOf items p e) (fault_at reasons.NoValue e.at (codes "hlinitialMarking")) old new
        (record { place_sort = sort; of_place = is_sort; sort = s; has_sort = has; right = over; no_variable = ground; none = λ bag says all. lacks (says_has bag says all) }, refl) (λ g stands. stands.1) is

-- ---- what a place has at first

-- what its term says
pub first_said : (SaysMultiset : Term → List (Value × ℕ) → Type 0) (o : Option Term) (number : Option ℕ) (e : Term) (bag : List (Value × ℕ)) → o ≡ Some e → SaysMultiset e bag → IsFirstBy SaysMultiset o number bag
first_said SaysMultiset o number e bag is says = subst (λ q. IsFirstBy SaysMultiset q number bag) (sym is) says

-- or what its number says
pub first_number : (SaysMultiset : Term → List (Value × ℕ) → Type 0) (o : Option Term) (number : Option ℕ) → o ≡ None → IsFirstBy SaysMultiset o number (number_tokens number)
first_number SaysMultiset o number is = subst (λ q. IsFirstBy SaysMultiset q number (number_tokens number)) (sym is) (by number)
  where
    by : (number : Option ℕ) → IsFirstBy SaysMultiset None number (number_tokens number)
    by None = refl
    by (Some n) = refl
