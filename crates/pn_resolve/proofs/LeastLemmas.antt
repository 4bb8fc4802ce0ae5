-- The least of the faults of a list is the least of those for which something holds.
use Rattle.std.proofs.Common.{◌≡◌, inl, inr, false, IsTrue, List, [], ◌∷◌, All, Option, Some, None, sym, subst}
use Rattle.std.specs.List.{Contains}
use Rattle.std.proofs.lemmas.List.Elements.{All-head, All-tail}
use Rattle.pn_faults.specs.declared.fault.Fault.{Fault}
use Rattle.pn_faults.specs.Order.{comes_before}
use Rattle.pn_faults.specs.Least.{least_fault, IsLeast}
use Rattle.pn_faults.specs.Standing.{IsLeastOf}
use Rattle.pn_faults.proofs.LeastLemmas.{first-from_least_fault, least_fault-is_none, not_before_itself, not_behind}
use Rattle.pn_facts.proofs.Contained.{contains_nil, contains_first, contains_cases}
use Rattle.std.proofs.lemmas.List.Elements.{Contains-append_right, Contains-append_cases}

in_front : (least : Fault) (front : List Fault) → All (λ f. IsTrue (comes_before least f)) front → (f : Fault) → Contains front f → comes_before f least ≡ false
in_front least [] all f c = absurd (contains_nil f c)
in_front least (g ∷ front) all f c = elim (contains_cases g front f c) [
  | inl e ↦ subst (λ x. comes_before x least ≡ false) e (not_behind least g (All-head (λ f. IsTrue (comes_before least f)) g front all))
  | inr d ↦ in_front least front (All-tail (λ f. IsTrue (comes_before least f)) g front all) f d
]

behind : (least : Fault) (rest : List Fault) → All (λ f. comes_before f least ≡ false) rest → (f : Fault) → Contains rest f → comes_before f least ≡ false
behind least [] all f c = absurd (contains_nil f c)
behind least (g ∷ rest) all f c = elim (contains_cases g rest f c) [
  | inl e ↦ subst (λ x. comes_before x least ≡ false) e (All-head (λ f. comes_before f least ≡ false) g rest all)
  | inr d ↦ behind least rest (All-tail (λ f. comes_before f least ≡ false) g rest all) f d
]

none_first : (fs : List Fault) (least : Fault) → IsLeast fs least → (f : Fault) → Contains fs f → comes_before f least ≡ false
none_first fs least is f c = elim (Contains-append_cases is.front (least ∷ is.rest) f (subst (λ l. Contains l f) is.stands c)) [
  | inl a ↦ in_front least is.front is.before f a
  | inr b ↦ elim (contains_cases least is.rest f b) [
    | inl e ↦ subst (λ x. comes_before x least ≡ false) e (not_before_itself least)
    | inr d ↦ behind least is.rest is.none_before f d
  ]
]

-- where a list has the faults of which P holds, its least fault is the least of these
pub least_of : (P : Fault → Type 0) (fs : List Fault) → ((f : Fault) → P f → Contains fs f) → ((f : Fault) → Contains fs f → P f) → (o : Option Fault) → least_fault fs ≡ o → IsLeastOf P o
least_of P fs all only None is = λ f stands. contains_nil f (subst (λ l. Contains l f) (least_fault-is_none fs is) (all f stands))
least_of P fs all only (Some least) is =
    let first = first-from_least_fault fs least is in
    (only least (subst (λ l. Contains l least) (sym first.stands) (Contains-append_right first.front (least ∷ first.rest) least (contains_first least first.rest))), λ f stands. none_first fs least first f (all f stands))
