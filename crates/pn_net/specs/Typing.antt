-- Which faults of sorts and of typing stand in a net (ISO/IEC 15909-2, sorts, terms and labels, in this project's profile).
use Rattle.std.specs.Prelude.{◌≡◌, ◌⊎◌, ℕ, ℤ, List, codes, true, int_lt, Some}
use Rattle.std.specs.List.{Contains}
use Rattle.pn_faults.specs.declared.fault.Fault.{Fault}
use Rattle.pn_faults.specs.declared.reason.Reason.TheVariants as reasons
use Rattle.pn_faults.specs.Order.{fault_at}
use Rattle.pn_objects.specs.declared.net.Net.{Net}
use Rattle.pn_objects.specs.declared.object.Arc.{Arc}
use Rattle.pn_objects.specs.declared.object.Place.{Place}
use Rattle.pn_resolve.specs.Standing.{StandsInSort}
use Rattle.pn_sorts.specs.Standing.{Stands}
use Rattle.pn_syntax.specs.declared.sort_expr.SortExpr.{SortExpr}
use Rattle.pn_syntax.specs.declared.term.Term.{Term}
use Rattle.pn_syntax.specs.declared.term.TermNode.TheVariants as nodes
use Rattle.pn_terms.specs.declared.term_sort.TermSort.{TermSort}
use Rattle.pn_terms.specs.declared.term_sort.TermSort.TheVariants as terms
use Rattle.pn_terms.specs.Sorts.{HasSort}
use Rattle.pn_terms.specs.Standing.{SortStandsIn, StandsIn}
use Rattle.pn_terms.specs.Terms.{IsPart}
use Rattle.pn_values.specs.Kin.{kin_of}
use Rattle.pn_values.specs.declared.sort.Sort.{Sort}
use Rattle.pn_values.specs.declared.sort.Sort.TheVariants as sorts
use Rattle.pn_net.specs.Ends.{IsPlaceOfArc}
use Rattle.pn_net.specs.Labels.{IsPlaceSort, condition_terms, marking_terms, net_terms, said, type_exprs}
use Rattle.pn_net.specs.Objects.{net_arcs, net_declarations, net_places}

-- the range of a constant in the term is empty; it is told at the constant
pub record HasEmptyConstantRange (e : Term) (f : Fault) : Type 0 where
  pub constant : Term
  pub is_part : IsPart e constant
  pub value : ℤ
  pub start : ℤ
  pub end : ℤ
  pub is_range : constant.node ≡ nodes.RangeConst value start end
  pub is_empty : int_lt end start ≡ true
  pub is : f ≡ fault_at reasons.EmptyRange constant.at (codes "finiteintrange")

-- the net has this fault of sorts: in its declarations, in the type of a place, or in a term
pub data StandsInSorts (n : Net) : Fault → Type 0 where
  declared : (f : Fault) → Stands (net_declarations n) f → StandsInSorts n f
  of_type : (f : Fault) (e : SortExpr) → Contains (type_exprs n) e → StandsInSort (net_declarations n) e f → StandsInSorts n f
  of_term : (f : Fault) (e : Term) → Contains (net_terms n) e → SortStandsIn (net_declarations n) e f → StandsInSorts n f
  of_constant : (f : Fault) (e : Term) → Contains (net_terms n) e → HasEmptyConstantRange e f → StandsInSorts n f

-- a term of a place of this sort: a value of its kin, or a multiset of such
abbrev pub IsTermOver : Sort → TermSort → Type 0
IsTermOver sort s = (s ≡ terms.Basis (kin_of sort)) ⊎ (s ≡ terms.Bag (kin_of sort))

-- a condition has a sort, which is not that of truth values
pub record IsNoCondition (n : Net) (f : Fault) : Type 0 where
  pub term : Term
  pub stands : Contains (condition_terms n) term
  pub sort : TermSort
  pub has_sort : HasSort (net_declarations n) term sort
  pub differs : sort ≡ terms.Basis sorts.Bool → ⊥
  pub is : f ≡ fault_at reasons.LabelSort term.at (codes "condition")

-- the initial marking of a place has a sort, which is not that of its place
pub record IsNoMarking (n : Net) (f : Fault) : Type 0 where
  pub place : Place
  pub stands : Contains (net_places n) place
  pub term : Term
  pub is_marking : said place.hl_marking ≡ Some term
  pub sort : TermSort
  pub has_sort : HasSort (net_declarations n) term sort
  pub place_sort : Sort
  pub of_place : IsPlaceSort (net_declarations n) place place_sort
  pub differs : IsTermOver place_sort sort → ⊥
  pub is : f ≡ fault_at reasons.LabelSort term.at (codes "hlinitialMarking")

-- the inscription of an arc has a sort, which is not that of its place
pub record IsNoInscription (n : Net) (f : Fault) : Type 0 where
  pub arc : Arc
  pub stands : Contains (net_arcs n) arc
  pub term : Term
  pub is_inscription : said arc.inscription ≡ Some term
  pub sort : TermSort
  pub has_sort : HasSort (net_declarations n) term sort
  pub place : Place
  pub at_place : IsPlaceOfArc n arc place
  pub place_sort : Sort
  pub of_place : IsPlaceSort (net_declarations n) place place_sort
  pub differs : IsTermOver place_sort sort → ⊥
  pub is : f ≡ fault_at reasons.LabelSort term.at (codes "hlinscription")

-- a variable stands in an initial marking
pub record IsNotGround (n : Net) (f : Fault) : Type 0 where
  pub term : Term
  pub stands : Contains (marking_terms n) term
  pub variable : Term
  pub is_part : IsPart term variable
  pub name : List ℕ
  pub is_variable : variable.node ≡ nodes.Variable name
  pub is : f ≡ fault_at reasons.NotGround variable.at name

-- the net has this fault of typing: one of a term, of the sort of a label, or of a marking with variables
pub data StandsInTyping (n : Net) : Fault → Type 0 where
  of_term : (f : Fault) (e : Term) → Contains (net_terms n) e → StandsIn (net_declarations n) e f → StandsInTyping n f
  of_condition : (f : Fault) → IsNoCondition n f → StandsInTyping n f
  of_marking : (f : Fault) → IsNoMarking n f → StandsInTyping n f
  of_inscription : (f : Fault) → IsNoInscription n f → StandsInTyping n f
  not_ground : (f : Fault) → IsNotGround n f → StandsInTyping n f
