-- Which initial markings have no value (ISO/IEC 15909-2, labels of high-level nets, in this project's profile).
use Rattle.std.specs.Prelude.{◌≡◌, ℕ, List, [], ◌∷◌, codes, Option, None, Some}
use Rattle.std.specs.List.{AllByRecursion, Contains}
use Rattle.pn_carriers.specs.Members.{IsMember}
use Rattle.pn_eval.specs.Outcomes.{multiset_of}
use Rattle.pn_eval.specs.Values.{HasValue}
use Rattle.pn_faults.specs.declared.fault.Fault.{Fault}
use Rattle.pn_faults.specs.declared.reason.Reason.TheVariants as reasons
use Rattle.pn_faults.specs.Order.{fault_at}
use Rattle.pn_names.specs.Names.{widths_of}
use Rattle.pn_net.specs.Labels.{IsPlaceSort, said}
use Rattle.pn_net.specs.Objects.{net_declarations, net_places}
use Rattle.pn_net.specs.Typing.{IsTermOver}
use Rattle.pn_objects.specs.declared.net.Net.{Net}
use Rattle.pn_objects.specs.declared.object.Place.{Place}
use Rattle.pn_operations.specs.declared.outcome.Outcome.{Outcome}
use Rattle.pn_syntax.specs.declared.declaration.Declaration.{Declaration}
use Rattle.pn_syntax.specs.declared.term.Term.{Term}
use Rattle.pn_syntax.specs.declared.term.TermNode.TheVariants as nodes
use Rattle.pn_terms.specs.declared.term_sort.TermSort.{TermSort}
use Rattle.pn_terms.specs.Sorts.{HasSort}
use Rattle.pn_terms.specs.Terms.{IsPart}
use Rattle.pn_values.specs.declared.sort.Sort.{Sort}
use Rattle.pn_values.specs.declared.value.Value.{Value}

-- a term without variables says this multiset
abbrev pub SaysMultiset : List Declaration → Term → List (Value × ℕ) → Type 0
SaysMultiset items e bag = (o : Outcome) × HasValue items [] [] e o × (multiset_of o ≡ Some bag)

-- its values are of this sort
abbrev pub AreOfSort : List Declaration → Sort → List (Value × ℕ) → Type 0
AreOfSort items sort bag = AllByRecursion (λ entry. IsMember (widths_of items) entry.0 sort) bag

-- no variable stands in a term
abbrev pub HasNoVariable : Term → Type 0
HasNoVariable e = (x : Term) → IsPart e x → (name : List ℕ) → x.node ≡ nodes.Variable name → ⊥

-- an initial marking of the right sort, without variables, says no multiset of values of its place's own sort
pub record LacksValue (items : List Declaration) (p : Place) (e : Term) : Type 0 where
  pub place_sort : Sort
  pub of_place : IsPlaceSort items p place_sort
  pub sort : TermSort
  pub has_sort : HasSort items e sort
  pub right : IsTermOver place_sort sort
  pub no_variable : HasNoVariable e
  pub none : (bag : List (Value × ℕ)) → SaysMultiset items e bag → AreOfSort items place_sort bag → ⊥

-- the fault of such a marking
abbrev pub IsNoValueOf : List Declaration → Place → Term → Fault → Type 0
IsNoValueOf items p e f = LacksValue items p e × (f ≡ fault_at reasons.NoValue e.at (codes "hlinitialMarking"))

-- the net has an initial marking without a value
pub record IsNoValue (n : Net) (f : Fault) : Type 0 where
  pub place : Place
  pub stands : Contains (net_places n) place
  pub term : Term
  pub is_marking : said place.hl_marking ≡ Some term
  pub is : IsNoValueOf (net_declarations n) place term f
