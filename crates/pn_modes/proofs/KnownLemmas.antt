-- Where the totals of all arcs of a transition have values, so have those of the arcs that a front knows.
use Rattle.std.proofs.Common.{◌≡◌, ◌≤◌, ℕ, zero, suc, Bool, true, false, inl, inr, IfSome, List, [], ◌∷◌, ◌++◌, length, map, take, cond, nat_le, Option, Some, None, refl, sym, ◌∙◌, subst, arith}
use Rattle.std.specs.List.{AllZip, Contains, cons_option, filter, filter_map, slice_get}
use Rattle.std.proofs.lemmas.Bool.Decides.{nat_tests}
use Rattle.pn_eval.specs.Assignments.{Covers}
use Rattle.pn_facts.proofs.Contained.{contains_at, contains_cases, contains_first, contains_next, contains_nil}
use Rattle.pn_marking.specs.Known.{AreKnown, IsKnownArc, arcs_with}
use Rattle.pn_marking.specs.Totals.{HasTotals, IsArcBag, IsMovedBy, SaysBag, StandsFor, leads, sum_at}
use Rattle.pn_marking.proofs.TotalLemmas.{GivesOnce, bags_once}
use Rattle.pn_bag.specs.Counts.{Includes}
use Rattle.pn_net.specs.Orders.{token_cmp}
use Rattle.pn_net.specs.Labels.{said}
use Rattle.pn_net.specs.Typed.{HasTypedLabels, IsTypedTerm}
use Rattle.pn_net.specs.declared.flat.Flat.{Flat}
use Rattle.pn_net.specs.declared.flat.FlatArc.{FlatArc}
use Rattle.pn_net.specs.declared.token.Token.{Token}
use Rattle.pn_syntax.specs.declared.declaration.Declaration.{Declaration}
use Rattle.pn_syntax.specs.declared.term.Term.{Term}
use Rattle.pn_values.specs.declared.value.Value.{Value}
use Rattle.pn_modes.specs.declared.parts.ArcPart.{ArcPart}
use Rattle.pn_modes.specs.Parts.{IsArcWith, ready_numbers}
use Rattle.pn_modes.proofs.FrontLemmas.{value_same, whole_in_front}

-- ---- lists of arcs of which the one leaves out some of the other

module _ (items : List Declaration) (vs : List ℕ) (given : List Value) (ws : List ℕ) (others : List Value) where
  -- what all arcs say some of them say too, and have less
  abbrev pub Below : List FlatArc → List FlatArc → Type 0
  Below all some = (bags : List (List (Value × ℕ))) → AllZip (IsArcBag items vs given) all bags
      → (kept : List (List (Value × ℕ))) × AllZip (IsArcBag items ws others) some kept × ((k : Token) → sum_at some kept k ≤ sum_at all bags k)

  nothing_below : Below [] []
  nothing_below [] zip = ([], tt, λ k. omega arith)
  nothing_below (b ∷ bags) zip = absurd zip

  skipped : (a : FlatArc) (all some : List FlatArc) → Below all some → Below (a ∷ all) some
  skipped a all some h [] zip = absurd zip
  skipped a all some h (b ∷ bags) zip = let x = h bags zip.1 in (x.0, x.1, λ k. let le = x.2 k in omega (arith, le))

  kept_too : (a : FlatArc) (all some : List FlatArc) → ((bag : List (Value × ℕ)) → IsArcBag items vs given a bag → IsArcBag items ws others a bag) → Below all some → Below (a ∷ all) (a ∷ some)
  kept_too a all some same h [] zip = absurd zip
  kept_too a all some same h (b ∷ bags) zip = let x = h bags zip.1 in (b ∷ x.0, (same b zip.0, x.1), λ k. let le = x.2 k in omega (arith, le))

-- ---- the arcs that are ready

pub in_longer : (xs : List ℕ) (n k v : ℕ) → n ≤ k → Contains (take n xs) v → Contains (take k xs) v
in_longer xs zero k v le c = absurd (contains_nil v c)
in_longer [] (suc n) k v le c = absurd (contains_nil v c)
in_longer (x ∷ xs) (suc n) zero v le c = absurd (omega (arith, le))
in_longer (x ∷ xs) (suc n) (suc k) v le c =
    elim (contains_cases x (take n xs) v c) [ inl same ↦ subst (Contains (x ∷ take k xs)) same (contains_first x (take k xs)) | inr there ↦ contains_next x (take k xs) v (in_longer xs n k v (omega (arith, le)) there) ]

module _ (f : Flat) (labels : HasTypedLabels f) (vars : List ℕ) (k : ℕ) (front rest : List Value) (size : length front ≡ length (take k vars)) where
  abbrev IsBelow : List FlatArc → List FlatArc → Type 0
  IsBelow = Below f.declarations vars (front ++ rest) (take k vars) front

  term_front : (e : Term) (bag : List (Value × ℕ)) → IsTypedTerm f.declarations e → Covers f.declarations (take k vars) e → StandsFor f.declarations vars (front ++ rest) e bag → StandsFor f.declarations (take k vars) front e bag
  term_front e bag typed covers (o, value, is) =
      (o, value_same f.declarations (take k vars) vars (front ++ rest) (take k vars) front (whole_in_front vars k front rest size) e o (record { sound = typed.0; sorted = typed.1; covers = covers }) value, is)

  arc_front : (a : FlatArc) (said_here : Option Term) (bag : List (Value × ℕ)) → IfSome said_here (IsTypedTerm f.declarations) → IfSome said_here (Covers f.declarations (take k vars))
      → SaysBag f.declarations vars (front ++ rest) said_here (said a.arc.weight) bag → SaysBag f.declarations (take k vars) front said_here (said a.arc.weight) bag
  arc_front a None bag typed covers says = says
  arc_front a (Some e) bag typed covers says = term_front e bag typed covers says

  more_known : (n : ℕ) (e : Option Term) → n ≤ k → IfSome e (Covers f.declarations (take n vars)) → IfSome e (Covers f.declarations (take k vars))
  more_known n None le h = tt
  more_known n (Some e) le h = λ v c. in_longer vars n k v le (h v c)

  by_arc : (into : Bool) (a : ArcPart) (all some : List ℕ) → IsArcWith f vars a → (o : Option FlatArc) → slice_get f.arcs a.number ≡ o → (ready : Bool) → nat_le a.need k ≡ ready
      → IsBelow (arcs_with f into all) (arcs_with f into some)
      → IsBelow (filter (leads into) (cons_option o (filter_map (slice_get f.arcs) all))) (filter (leads into) (filter_map (slice_get f.arcs) (cond ready (a.number ∷ some) some)))
  by_arc into a all some known None at true is h = subst (λ x. IsBelow (arcs_with f into all) (filter (leads into) (cons_option x (filter_map (slice_get f.arcs) some)))) (sym at) h
  by_arc into a all some known None at false is h = h
  by_arc into a all some known (Some x) at true is h =
      let le : a.need ≤ k = grind (arith, nat_tests) in
      let one : Some known.0 ≡ Some x = sym known.1 ∙ at in
      let same : known.0 ≡ x = cc in
      let covers = more_known a.need (said x.arc.inscription) le (subst (λ (y : FlatArc). IfSome (said y.arc.inscription) (Covers f.declarations (take a.need vars))) same known.2) in
      let front_says : (bag : List (Value × ℕ)) → IsArcBag f.declarations vars (front ++ rest) x bag → IsArcBag f.declarations (take k vars) front x bag = λ bag. arc_front x (said x.arc.inscription) bag (labels.inscriptions x (contains_at f.arcs a.number x at)) covers in
      subst (λ y. IsBelow (filter (leads into) (x ∷ filter_map (slice_get f.arcs) all)) (filter (leads into) (cons_option y (filter_map (slice_get f.arcs) some)))) (sym at)
      (led x (leads into x) (arcs_with f into all) (arcs_with f into some) front_says h)
    where
      led : (x : FlatArc) (b : Bool) (all some : List FlatArc) → ((bag : List (Value × ℕ)) → IsArcBag f.declarations vars (front ++ rest) x bag → IsArcBag f.declarations (take k vars) front x bag) → IsBelow all some → IsBelow (cond b (x ∷ all) all) (cond b (x ∷ some) some)
      led x true all some same h = kept_too f.declarations vars (front ++ rest) (take k vars) front x all some same h
      led x false all some same h = h
  by_arc into a all some known (Some x) at false is h = led (leads into x) (arcs_with f into all) (arcs_with f into some) h
    where
      led : (b : Bool) (all some : List FlatArc) → IsBelow all some → IsBelow (cond b (x ∷ all) all) some
      led true all some h = skipped f.declarations vars (front ++ rest) (take k vars) front x all some h
      led false all some h = h

  ready_below : (into : Bool) (arcs : List ArcPart) → ((a : ArcPart) → Contains arcs a → IsArcWith f vars a) → IsBelow (arcs_with f into (map (λ a. a.number) arcs)) (arcs_with f into (ready_numbers k arcs))
  ready_below into [] known = nothing_below f.declarations vars (front ++ rest) (take k vars) front
  ready_below into (a ∷ arcs) known =
      subst (λ numbers. IsBelow (arcs_with f into (map (λ x. x.number) (a ∷ arcs))) (arcs_with f into numbers)) (numbers_ready (nat_le a.need k))
      (by_arc into a (map (λ x. x.number) arcs) (ready_numbers k arcs) (known a (contains_first a arcs)) (slice_get f.arcs a.number) refl (nat_le a.need k) refl
      (ready_below into arcs (λ x c. known x (contains_next a arcs x c))))
    where
      numbers_ready : (b : Bool) → cond b (a.number ∷ ready_numbers k arcs) (ready_numbers k arcs) ≡ map (λ x. x.number) (cond b (a ∷ filter (λ x. nat_le x.need k) arcs) (filter (λ x. nat_le x.need k) arcs))
      numbers_ready true = refl
      numbers_ready false = refl

  -- the totals of all arcs that lead in one direction have values only where those of the arcs have that are ready
  pub totals_ready : (into : Bool) (arcs : List ArcPart) → ((a : ArcPart) → Contains arcs a → IsArcWith f vars a) → HasTotals f vars (front ++ rest) (arcs_with f into (map (λ a. a.number) arcs)) → HasTotals f (take k vars) front (arcs_with f into (ready_numbers k arcs))
  totals_ready into arcs known has =
      let below = ready_below into arcs known has.bags has.say in
      record {
        bags = below.0;
        say = below.1;
        fits = λ t. let le = below.2 t in let most = has.fits t in omega (arith, le, most);
        tokens = λ t some. let le = below.2 t in has.tokens t (omega (arith, le, some));
      }

  -- and what the arcs move that are ready is part of what all move
  pub moved_ready : (into : Bool) (arcs : List ArcPart) → GivesOnce f.declarations (take k vars) front → ((a : ArcPart) → Contains arcs a → IsArcWith f vars a) → (m all : List (Token × ℕ))
      → IsMovedBy f (take k vars) front (arcs_with f into (ready_numbers k arcs)) m → IsMovedBy f vars (front ++ rest) (arcs_with f into (map (λ a. a.number) arcs)) all → Includes token_cmp all m
  moved_ready into arcs once known m all some whole t =
      let below = ready_below into arcs known whole.bags whole.say in
      let one : below.0 ≡ some.bags = bags_once f.declarations (take k vars) front once (arcs_with f into (ready_numbers k arcs)) below.0 some.bags below.1 some.say in
      let le : sum_at (arcs_with f into (ready_numbers k arcs)) some.bags t ≤ sum_at (arcs_with f into (map (λ a. a.number) arcs)) whole.bags t
      = subst (λ bags. sum_at (arcs_with f into (ready_numbers k arcs)) bags t ≤ sum_at (arcs_with f into (map (λ a. a.number) arcs)) whole.bags t) one (below.2 t) in
      let here = some.sums t in
      let there = whole.sums t in
      omega (arith, le, here, there)

  -- the arcs that are ready need no more than the variables of the front
  pub ready_known : (arcs : List ArcPart) → ((a : ArcPart) → Contains arcs a → IsArcWith f vars a) → AreKnown f (take k vars) (ready_numbers k arcs)
  ready_known [] known n c = absurd (contains_nil n c)
  ready_known (a ∷ arcs) known n c = step (nat_le a.need k) refl (ready_known arcs (λ x d. known x (contains_next a arcs x d)) n) c
    where
      step : (b : Bool) → nat_le a.need k ≡ b → (Contains (ready_numbers k arcs) n → IsKnownArc f (take k vars) n)
          → Contains (map (λ x. x.number) (cond b (a ∷ filter (λ x. nat_le x.need k) arcs) (filter (λ x. nat_le x.need k) arcs))) n → IsKnownArc f (take k vars) n
      step true is later there =
          let le : a.need ≤ k = grind (arith, nat_tests) in
          let own = known a (contains_first a arcs) in
          elim (contains_cases a.number (ready_numbers k arcs) n there) [
            | inl same ↦ subst (IsKnownArc f (take k vars)) same (own.0, own.1, more_known a.need (said own.0.arc.inscription) le own.2)
            | inr behind ↦ later behind
          ]
      step false is later there = later there
