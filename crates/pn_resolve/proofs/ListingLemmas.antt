-- The faults that are listed for the declarations are those that stand.
use Rattle.std.proofs.Common.{◌≡◌, inl, inr, ◌↔◌, ℕ, ◌+◌, ◌<◌, ◌≤◌, Bool, true, false, IsTrue, cond, List, [], ◌∷◌, ◌++◌, length, get_or, Option, Some, None, int_lt, codes, ℤ, refl, sym, ap, ◌∙◌, subst, arith}
use Rattle.std.specs.List.{Contains, slice_get}
use Rattle.std.proofs.lemmas.Bool.{cases_lt}
use Rattle.std.proofs.lemmas.Option.{slice_get-get_or, slice_get_within}
use Rattle.pn_faults.specs.declared.fault.Fault.{Fault}
use Rattle.pn_faults.specs.Order.{fault_at}
use Rattle.pn_faults.specs.Least.{least_fault, lower}
use Rattle.pn_faults.specs.Standing.{IsLeastOf}
use Rattle.pn_faults.specs.declared.reason.Reason.TheVariants as reasons
use Rattle.pn_syntax.specs.declared.declaration.Declaration.{Declaration}
use Rattle.pn_syntax.specs.declared.declaration.ConstExpr.{ConstExpr}
use Rattle.pn_syntax.specs.declared.declaration.ConstExpr.TheVariants as exprs
use Rattle.pn_syntax.specs.declared.sort_expr.SortExpr.{SortExpr}
use Rattle.pn_names.specs.Names.{id_of, at_of}
use Rattle.pn_resolve.specs.declared.extent.Extent.{Extent}
use Rattle.pn_resolve.specs.Listing.{cycle_faults, expr_faults, sort_faults, value_faults, element_faults, range_faults, faults_of}
use Rattle.pn_resolve.specs.Standing.{StandsInSort, StandsBesides, in_sort, sort_cycle, constant_range, LeadsTo, expr_of, elements_of, IsListed, HasEmptyRange, at_of_constant}
use Rattle.pn_resolve.specs.Telling.{told}
use Rattle.pn_facts.proofs.Contained.{contains_nil, contains_first, contains_all_of, contains_some_of, contains_at, at_contains, contains_one}
use Rattle.std.proofs.lemmas.List.Elements.{Contains-append_left, Contains-append_right, Contains-append_cases}
use Rattle.pn_resolve.proofs.KeepLemmas.{kept_both}
use Rattle.pn_resolve.proofs.LeastLemmas.{least_of}

value_told : (c : ConstExpr) (f : Fault) → HasEmptyRange c → f ≡ fault_at reasons.EmptyRange (at_of_constant c) (codes "finiteintrange") → Contains (value_faults c) f
value_told (exprs.Named id at) f empty is = absurd empty
value_told (exprs.Range value start end at) f empty is =
    subst (λ l. Contains l f) (sym (ap (λ b. cond b (fault_at reasons.EmptyRange at (codes "finiteintrange") ∷ []) []) empty)) (subst (λ g. Contains (g ∷ []) f) is (contains_first f []))

range_told : (at : ℕ) (start end : ℤ) (b : Bool) (f : Fault) → int_lt end start ≡ b → Contains (cond b (fault_at reasons.EmptyRange at (codes "finiteintrange") ∷ []) []) f → (int_lt end start ≡ true) × (f ≡ fault_at reasons.EmptyRange at (codes "finiteintrange"))
range_told at start end true f is c = (is, contains_one (fault_at reasons.EmptyRange at (codes "finiteintrange")) f c)
range_told at start end false f is c = absurd (contains_nil f c)

value_stands : (c : ConstExpr) (f : Fault) → Contains (value_faults c) f → HasEmptyRange c × (f ≡ fault_at reasons.EmptyRange (at_of_constant c) (codes "finiteintrange"))
value_stands (exprs.Named id at) f c = absurd (contains_nil f c)
value_stands (exprs.Range value start end at) f c = range_told at start end (int_lt end start) f refl c

-- a fault that is listed for a declaration before this place
pub record IsListedBefore (items : List Declaration) (known : List ℕ → Option Extent) (cycles : List Bool) (count : ℕ) (f : Fault) : Type 0 where
  pub place : ℕ
  pub declaration : Declaration
  pub is_before : place < count
  pub stands : slice_get items place ≡ Some declaration
  pub listed : Contains (faults_of known (get_or cycles place false) declaration) f

-- the least of the faults that are listed for the declarations so far
pub record FaultsSoFar (items : List Declaration) (known : List ℕ → Option Extent) (cycles : List Bool) (count : ℕ) (least : Option Fault) : Type 0 where
  pub faults : List Fault
  pub is : least ≡ lower None (least_fault faults)
  pub all : (f : Fault) (k : ℕ) (d : Declaration) → k < count → slice_get items k ≡ Some d → Contains (faults_of known (get_or cycles k false) d) f → Contains faults f
  pub only : (f : Fault) → Contains faults f → IsListedBefore items known cycles count f

pub next_so_far : (items : List Declaration) (known : List ℕ → Option Extent) (cycles : List Bool) (i : ℕ) (x : Declaration) (least new : Option Fault) → i < length items → x ≡ get_or items i x
    → FaultsSoFar items known cycles i least → new ≡ lower least (least_fault (faults_of known (get_or cycles i false) x)) → FaultsSoFar items known cycles (i + 1) new
next_so_far items known cycles i x least new lt x_is before is = record {
  faults = before.faults ++ here;
  is = kept_both None least new before.faults here before.is is;
  all = λ f k d below stands c. elim (cases_lt k i) [
    | inl first ↦ Contains-append_left before.faults here f (before.all f k d first stands c)
    | inr last ↦ (
        let at : k ≡ i = omega arith in
        let item : Some d ≡ Some x = sym stands ∙ ap (slice_get items) at ∙ stands_here in
        let same : d ≡ x = cc in
        Contains-append_right before.faults here f (subst (λ y. Contains (faults_of known (get_or cycles i false) y) f) same (subst (λ n. Contains (faults_of known (get_or cycles n false) d) f) at c))
        )
  ];
  only = λ f c. elim (Contains-append_cases before.faults here f c) [
    | inl a ↦ (let l = before.only f a in record { place = l.place; declaration = l.declaration; is_before = omega (arith, l.is_before); stands = l.stands; listed = l.listed })
    | inr b ↦ record { place = i; declaration = x; is_before = omega arith; stands = stands_here; listed = b }
  ];
}
  where
    here : List Fault
    here = faults_of known (get_or cycles i false) x

    stands_here : slice_get items i ≡ Some x
    stands_here = slice_get-get_or items i x lt ∙ ap Some (sym x_is)

module _ (items : List Declaration) (known : List ℕ → Option Extent) (all_told : (e : SortExpr) (f : Fault) → StandsInSort items e f → Contains (told known e).faults f) (all_stand : (e : SortExpr) (f : Fault) → Contains (told known e).faults f → StandsInSort items e f)
    (cycles : List Bool) (tells : (place : ℕ) → place < length items → IsTrue (get_or cycles place false) ↔ LeadsTo items place place) where
  abbrev of_place : ℕ → Declaration → List Fault
  of_place k d = faults_of known (get_or cycles k false) d

  in_expr : (d : Declaration) (e : SortExpr) (f : Fault) → expr_of d ≡ Some e → StandsInSort items e f → Contains (sort_faults known d) f
  in_expr d e f is stands = subst (λ o. Contains (expr_faults known o) f) (sym is) (all_told e f stands)

  in_cycle : (d : Declaration) (b : Bool) (f : Fault) → b ≡ true → f ≡ fault_at reasons.SortCycle (at_of d) (id_of d) → Contains (cycle_faults b d) f
  in_cycle d b f is f_is = subst (λ x. Contains (cycle_faults x d) f) (sym is) (subst (λ g. Contains (g ∷ []) f) f_is (contains_first f []))

  in_range : (d : Declaration) (c : ConstExpr) (f : Fault) → IsListed d c → HasEmptyRange c → f ≡ fault_at reasons.EmptyRange (at_of_constant c) (codes "finiteintrange") → Contains (range_faults d) f
  in_range d c f (e, in_elements, in_values) empty is = contains_all_of element_faults (elements_of d) e f in_elements (contains_all_of value_faults e.values c f in_values (value_told c f empty is))

  placed : (count : ℕ) (k : ℕ) (d : Declaration) (f : Fault) → length items ≤ count → slice_get items k ≡ Some d → Contains (of_place k d) f → IsListedBefore items known cycles count f
  placed count k d f le stands c = record { place = k; declaration = d; is_before = omega (arith, slice_get_within items k d stands); stands = stands; listed = c }

  listed_all : (count : ℕ) (f : Fault) → length items ≤ count → StandsBesides items f → IsListedBefore items known cycles count f
  listed_all count f le (in_sort _ d e in_items is stands) =
      let at = at_contains items d in_items in
      placed count at.0 d f le at.1 (Contains-append_right (cycle_faults (get_or cycles at.0 false) d) (sort_faults known d ++ range_faults d) f (Contains-append_left (sort_faults known d) (range_faults d) f (in_expr d e f is stands)))
  listed_all count f le (sort_cycle _ place d stands leads f_is) =
      placed count place d f le stands (Contains-append_left (cycle_faults (get_or cycles place false) d) (sort_faults known d ++ range_faults d) f (in_cycle d (get_or cycles place false) f ((tells place (slice_get_within items place d stands)).1 leads) f_is))
  listed_all count f le (constant_range _ d c in_items listed empty f_is) =
      let at = at_contains items d in_items in
      placed count at.0 d f le at.1 (Contains-append_right (cycle_faults (get_or cycles at.0 false) d) (sort_faults known d ++ range_faults d) f (Contains-append_right (sort_faults known d) (range_faults d) f (in_range d c f listed empty f_is)))

  cycle_stands : (k : ℕ) (d : Declaration) (f : Fault) → slice_get items k ≡ Some d → (b : Bool) → get_or cycles k false ≡ b → Contains (cycle_faults b d) f → StandsBesides items f
  cycle_stands k d f stands true is c =
      sort_cycle f k d stands ((tells k (slice_get_within items k d stands)).0 is) (contains_one (fault_at reasons.SortCycle (at_of d) (id_of d)) f c)
  cycle_stands k d f stands false is c = absurd (contains_nil f c)

  sort_stands : (k : ℕ) (d : Declaration) (f : Fault) → slice_get items k ≡ Some d → (o : Option SortExpr) → expr_of d ≡ o → Contains (expr_faults known o) f → StandsBesides items f
  sort_stands k d f stands None is c = absurd (contains_nil f c)
  sort_stands k d f stands (Some e) is c = in_sort f d e (contains_at items k d stands) is (all_stand e f c)

  range_stands : (k : ℕ) (d : Declaration) (f : Fault) → slice_get items k ≡ Some d → Contains (range_faults d) f → StandsBesides items f
  range_stands k d f stands c =
      let e = contains_some_of element_faults (elements_of d) f c in
      let v = contains_some_of value_faults (e.0).values f e.2 in
      let is = value_stands v.0 f v.2 in
      constant_range f d v.0 (contains_at items k d stands) (e.0, e.1, v.1) is.0 is.1

  listed_stands : (count : ℕ) (f : Fault) → IsListedBefore items known cycles count f → StandsBesides items f
  listed_stands count f l = elim (Contains-append_cases (cycle_faults (get_or cycles l.place false) l.declaration) (sort_faults known l.declaration ++ range_faults l.declaration) f l.listed) [
    | inl a ↦ cycle_stands l.place l.declaration f l.stands (get_or cycles l.place false) refl a
    | inr b ↦ elim (Contains-append_cases (sort_faults known l.declaration) (range_faults l.declaration) f b) [
      | inl x ↦ sort_stands l.place l.declaration f l.stands (expr_of l.declaration) refl x
      | inr y ↦ range_stands l.place l.declaration f l.stands y
    ]
  ]

  pub whole_least : (count : ℕ) (least : Option Fault) → length items ≤ count → FaultsSoFar items known cycles count least → IsLeastOf (StandsBesides items) least
  whole_least count least le so_far =
      least_of (StandsBesides items) so_far.faults
      (λ f stands. let l = listed_all count f le stands in so_far.all f l.place l.declaration l.is_before l.stands l.listed)
      (λ f c. let l = so_far.only f c in listed_stands count f (record { place = l.place; declaration = l.declaration; is_before = l.is_before; stands = l.stands; listed = l.listed }))
      least (sym (so_far.is ∙ lower_none (least_fault so_far.faults)))
    where
      lower_none : (o : Option Fault) → lower None o ≡ o
      lower_none None = refl
      lower_none (Some f) = refl
