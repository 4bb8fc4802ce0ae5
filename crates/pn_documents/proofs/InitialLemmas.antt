-- The initial marking of the net that is made for a marking is this marking.
use Rattle.std.proofs.Common.{◌≡◌, ◌≤◌, ◌+◌, ℕ, zero, suc, List, [], ◌∷◌, Option, None, Some, refl, sym, ap, ◌∙◌, subst, arith}
use Rattle.std.specs.List.{slice_get}
use Rattle.std.specs.Option.{option_map}
use Rattle.std.specs.Ordering.{match_ordering}
use Rattle.std.specs.declared.cmp.Ordering.TheVariants.{Less, Equal}
use Rattle.std.proofs.lemmas.Option.{slice_get-map}
use Rattle.pn_bag.specs.Bag.{IsBag}
use Rattle.pn_bag.specs.Counts.{Every, count_of}
use Rattle.pn_bag.specs.declared.TheConstants.{MAX_COUNT}
use Rattle.pn_carriers.proofs.ValueLemmas.{dot_is}
use Rattle.pn_carriers.specs.Members.{IsMember, is_member}
use Rattle.pn_checks.specs.Initial.{IsFirstBy, IsFirstOf, IsInitial, IsMarked, StandOn, token}
use Rattle.pn_checks.specs.NoValue.{SaysMultiset}
use Rattle.pn_eval.proofs.KinLemmas.{member_of_layer}
use Rattle.pn_marked.proofs.BagTermLemmas.{bag_term_is}
use Rattle.pn_marked.proofs.GroundLemmas.{ground_is}
use Rattle.pn_marked.proofs.MarkedLemmas.{sort_of_place_declared}
use Rattle.pn_marked.specs.Ground.{IsBagTermOf}
use Rattle.pn_marked.specs.Marked.{IsMarkedNet, IsMarkedPlace, bag_term, label_of, number_label, values_on}
use Rattle.pn_marking.specs.Totals.{AreTokensOf, IsTokenOf}
use Rattle.pn_names.specs.Names.{widths_of}
use Rattle.pn_net.specs.Labels.{said}
use Rattle.pn_net.specs.Orders.{token_cmp}
use Rattle.pn_net.specs.Typed.{IsSortOfPlace}
use Rattle.pn_net.specs.declared.flat.Flat.{Flat}
use Rattle.pn_net.specs.declared.token.Token.{Token}
use Rattle.pn_objects.specs.declared.net.Net.{Net}
use Rattle.pn_objects.specs.declared.object.Place.{Place}
use Rattle.pn_operators.specs.declared.kind.Kind.{Kind}
use Rattle.pn_operators.specs.declared.kind.Kind.TheVariants as kinds
use Rattle.pn_syntax.specs.declared.declaration.Declaration.{Declaration}
use Rattle.pn_syntax.specs.declared.term.Term.{Term}
use Rattle.pn_values.specs.Kin.{kin_of}
use Rattle.pn_values.specs.Order.{value_cmp}
use Rattle.pn_values.specs.OrderLaws.{values_total}
use Rattle.std.specs.Cmp.{tied_itself}
use Rattle.pn_values.specs.declared.sort.Sort.TheOpen as layer
use Rattle.pn_values.specs.declared.sort.Sort.{Sort}
use Rattle.pn_values.specs.declared.sort.Sort.TheVariants as sorts
use Rattle.pn_values.specs.declared.value.Value.{Value}
use Rattle.pn_values.specs.declared.value.Value.TheVariants as values
use Rattle.pn_documents.specs.Fit.{HasFitSorts}
use Rattle.pn_documents.proofs.MarkedLemmas.{marked_flat, marked_same}
use Rattle.pn_documents.proofs.RemarkedLemmas.{unmark}
use Rattle.pn_documents.proofs.TokenLemmas.{bag_on, every_on, members_on, stand_on}

none_at_all : {X : Type 0} (xs : List X) → Every (λ x. ⊥) xs → xs ≡ []
none_at_all [] all = refl
none_at_all (x ∷ xs) all = absurd all.0

dot_equal : value_cmp values.Dot values.Dot ≡ Equal
dot_equal = tied_itself values_total values.Dot

dot_member : (widths : List ℕ) (v : Value) → IsMember widths v sorts.Dot → v ≡ values.Dot
dot_member widths v h = dot_is v (sym (member_of_layer widths layer.Dot v) ∙ ap (λ s. is_member widths s v) sorts.rolls-Dot ∙ h)

-- a multiset of the one value, as its number
dot_bag : (Says : Term → List (Value × ℕ) → Type 0) (bag : List (Value × ℕ)) (c : ℕ) → IsBag value_cmp bag → Every (λ entry. entry.0 ≡ values.Dot) bag → c ≡ count_of value_cmp bag values.Dot → IsFirstBy Says None (said (number_label c)) bag
dot_bag Says [] c is all count = subst (λ n. IsFirstBy Says None (said (number_label n)) []) (sym count) refl
dot_bag Says ((v, zero) ∷ []) c is all count = absurd (omega (arith, is.counted.0.0))
dot_bag Says ((v, suc n) ∷ []) c is all count =
    let one : c ≡ suc n = count ∙ ap (λ w. count_of value_cmp ((w, suc n) ∷ []) values.Dot) all.0 ∙ ap (λ o. match_ordering o 0 (suc n) 0 + 0) dot_equal ∙ omega arith in
    subst (λ k. IsFirstBy Says None (said (number_label k)) ((v, suc n) ∷ [])) (sym one) (ap (λ w. (w, suc n) ∷ []) all.0)
dot_bag Says ((v, n) ∷ (w, k) ∷ more) c is all count =
    let less : Less ≡ Equal = sym is.rising.0.0 ∙ (λ i. value_cmp (all.0 i) (all.1.0 i)) ∙ dot_equal in
    absurd cc

dot_count : (bag : List (Value × ℕ)) → IsBag value_cmp bag → Every (λ entry. entry.0 ≡ values.Dot) bag → count_of value_cmp bag values.Dot ≤ MAX_COUNT
dot_count [] is all = omega arith
dot_count ((v, n) ∷ []) is all =
    let one : count_of value_cmp ((v, n) ∷ []) values.Dot ≡ n + 0 = ap (λ w. count_of value_cmp ((w, n) ∷ []) values.Dot) all.0 ∙ ap (λ o. match_ordering o 0 n 0 + 0) dot_equal in
    omega (arith, one, is.counted.0.1)
dot_count ((v, n) ∷ (w, k) ∷ more) is all =
    let less : Less ≡ Equal = sym is.rising.0.0 ∙ (λ i. value_cmp (all.0 i) (all.1.0 i)) ∙ dot_equal in
    absurd cc

module _ (f : Flat) (m : List (Token × ℕ)) (fit : HasFitSorts f) (tokens : AreTokensOf f m) (is_bag : IsBag token_cmp m) where
  abbrev items : List Declaration
  items = f.declarations

  -- the term of what stands on a place says it
  pub term_on : (i : ℕ) (s : Sort) (e : Term) → IsSortOfPlace f i s → bag_term items s (values_on m i) ≡ Some e → IsBagTermOf items (kin_of s) (values_on m i) e
  term_on i s e of_place is =
      bag_term_is items s (ground_is items fit.distinct s (sort_of_place_declared f i s of_place) (fit.fits i s of_place).sound) (values_on m i) e (bag_on i m is_bag) (members_on i f s of_place m tokens) is

  first_coloured : (i : ℕ) (s : Sort) → IsSortOfPlace f i s → IsFirstBy (SaysMultiset items) (said (option_map label_of (bag_term items s (values_on m i)))) None (values_on m i)
  first_coloured i s of_place = by (bag_term items s (values_on m i)) refl (values_on m i) refl
    where
      by : (o : Option Term) → bag_term items s (values_on m i) ≡ o → (bag : List (Value × ℕ)) → values_on m i ≡ bag → IsFirstBy (SaysMultiset items) (said (option_map label_of o)) None (values_on m i)
      by (Some e) is bag there = let says = term_on i s e of_place is in (_, says.value, refl)
      by None is [] there = there
      by None is (entry ∷ []) there = absurd (let bad = sym (ap (bag_term items s) there) ∙ is in cc)
      by None is (entry ∷ other ∷ more) there = absurd (let bad = sym (ap (bag_term items s) there) ∙ is in cc)

  all_dot : (i : ℕ) (p : Place) → slice_get f.places i ≡ Some p → f.kind ≡ kinds.PtNet → Every (λ entry. entry.0 ≡ values.Dot) (values_on m i)
  all_dot i p at plain = each_dot (values_on m i) (members_on i f sorts.Dot (p, at, fit.plain plain i p at) m tokens)
    where
      each_dot : (bag : List (Value × ℕ)) → Every (λ entry. IsMember (widths_of items) entry.0 sorts.Dot) bag → Every (λ entry. entry.0 ≡ values.Dot) bag
      each_dot [] all = tt
      each_dot (entry ∷ bag) all = (dot_member (widths_of items) entry.0 all.0, each_dot bag all.1)

  first_plain : (i : ℕ) (p : Place) → slice_get f.places i ≡ Some p → f.kind ≡ kinds.PtNet → IsFirstBy (SaysMultiset items) None (said (number_label (count_of token_cmp m (token i values.Dot)))) (values_on m i)
  first_plain i p at plain =
      dot_bag (SaysMultiset items) (values_on m i) (count_of token_cmp m (token i values.Dot)) (bag_on i m is_bag) (all_dot i p at plain) (stand_on i m values.Dot)

  -- a count is within the limit
  pub count_on_place : (i : ℕ) (p : Place) → slice_get f.places i ≡ Some p → f.kind ≡ kinds.PtNet → count_of token_cmp m (token i values.Dot) ≤ MAX_COUNT
  count_on_place i p at plain = let most = dot_count (values_on m i) (bag_on i m is_bag) (all_dot i p at plain) in omega (arith, most, stand_on i m values.Dot)

  -- a place has what stands on it
  first_of : (k : Kind) → f.kind ≡ k → (i : ℕ) (p q : Place) → slice_get f.places i ≡ Some p → IsMarkedPlace k items m i p q → IsFirstOf (SaysMultiset items) q (values_on m i)
  first_of kinds.PtNet is i p q at marked = subst (λ x. IsFirstOf (SaysMultiset items) x (values_on m i)) (sym marked) (first_plain i p at is)
  first_of kinds.Symmetric is i p q at (s, of_place, marked) = subst (λ x. IsFirstOf (SaysMultiset items) x (values_on m i)) (sym marked) (first_coloured i s (p, at, of_place))
  first_of kinds.HighLevel is i p q at (s, of_place, marked) = subst (λ x. IsFirstOf (SaysMultiset items) x (values_on m i)) (sym marked) (first_coloured i s (p, at, of_place))

  no_place : (i : ℕ) → slice_get f.places i ≡ None → StandOn m i []
  no_place i none = subst (StandOn m i) (none_at_all (values_on m i) (every_on i (λ entry. IsTokenOf f entry.0) (λ entry. ⊥) (λ k n here is. outside k is here) m tokens)) (stand_on i m)
    where
      outside : (k : Token) → IsTokenOf f k → i ≡ k.place → ⊥
      outside k (s, (p, at, of_place), member) here = let bad : None ≡ Some p = sym none ∙ ap (slice_get f.places) here ∙ at in cc

  module _ (n : Net) (is : IsMarkedNet f m n) where
    marked_at : (i : ℕ) (o u : Option Place) → slice_get is.places i ≡ o → slice_get f.places i ≡ u → option_map unmark o ≡ option_map unmark u → IsMarked (SaysMultiset items) m i o
    marked_at i None None at there same = no_place i there
    marked_at i None (Some p) at there same = absurd cc
    marked_at i (Some q) None at there same = absurd cc
    marked_at i (Some q) (Some p) at there same = (values_on m i, first_of f.kind refl i p q there (is.marked.each i p q there at), stand_on i m)

    -- the marking is the initial one
    pub marked_initial : IsInitial (marked_flat f m n is) m
    marked_initial = record {
      bag = is_bag;
      marked = λ i. marked_at i (slice_get is.places i) (slice_get f.places i) refl refl
          (sym (slice_get-map unmark is.places i) ∙ ap (λ ps. slice_get ps i) (marked_same f m n is) ∙ slice_get-map unmark f.places i);
    }
