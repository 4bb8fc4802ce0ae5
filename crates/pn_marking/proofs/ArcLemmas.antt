-- What one arc moves.
use Rattle.std.proofs.Common.{◌≡◌, ◌<◌, ◌≤◌, ◌+◌, inl, inr, ℕ, List, [], ◌∷◌, Bool, true, false, cond, Option, None, Some, refl, sym, ap, ◌∙◌, subst, arith, ◌==◌}
use Rattle.std.specs.List.{AllZip, slice_get}
use Rattle.std.proofs.lemmas.Bool.{false≢true}
use Rattle.std.proofs.lemmas.Bool.Decides.{nat_tests}
use Rattle.pn_bag.specs.Algebra.{HasKey}
use Rattle.pn_bag.specs.Bag.{IsBag}
use Rattle.pn_bag.specs.Counts.{Every, IsSame, count_of}
use Rattle.pn_bag.specs.declared.TheConstants.{MAX_COUNT}
use Rattle.pn_bag.proofs.Canonical.{has_entry}
use Rattle.pn_carriers.specs.Members.{IsMember, is_member}
use Rattle.pn_names.specs.Names.{widths_of}
use Rattle.pn_net.specs.Labels.{IsPlaceSort, IsSortBy, said}
use Rattle.pn_net.specs.Orders.{token_cmp}
use Rattle.pn_net.specs.Typed.{IsSortOfPlace}
use Rattle.pn_net.specs.declared.flat.Flat.{Flat}
use Rattle.pn_net.specs.declared.flat.FlatArc.{FlatArc}
use Rattle.pn_net.specs.declared.token.Token.{Token}
use Rattle.pn_resolve.proofs.Meanings.{resolves_once}
use Rattle.pn_syntax.specs.declared.declaration.Declaration.{Declaration}
use Rattle.pn_syntax.specs.declared.sort_expr.SortExpr.{SortExpr}
use Rattle.pn_values.specs.Order.{value_cmp}
use Rattle.pn_values.specs.OrderLaws.{values_apart}
use Rattle.pn_values.specs.declared.sort.Sort.{Sort}
use Rattle.pn_values.specs.declared.value.Value.{Value}
use Rattle.pn_marking.specs.Totals.{HasTotals, IsArcBag, IsMovedBy, IsValueOn, count_at, sum_at}
use Rattle.pn_marking.proofs.PutLemmas.{count_here, token_on}
use Rattle.pn_marking.proofs.TotalLemmas.{GivesOnce, bags_once, moved_of}

-- ---- the sort of a place is one

place_sort_one : (items : List Declaration) (o : Option SortExpr) (s t : Sort) → IsSortBy items o s → IsSortBy items o t → t ≡ s
place_sort_one items None s t is also = also ∙ sym is
place_sort_one items (Some e) s t is also = resolves_once items e t s also is

pub sort_one : (f : Flat) (i : ℕ) (s t : Sort) → IsSortOfPlace f i s → IsSortOfPlace f i t → t ≡ s
sort_one f i s t (p, got, is) (q, there, also) =
    let same : q ≡ p = (let both : Some q ≡ Some p = sym there ∙ got in cc) in
    place_sort_one f.declarations (said p.sort) s t is (subst (λ r. IsPlaceSort f.declarations r t) same also)

-- whether a value is of it
module _ (f : Flat) (items : List Declaration) (same : items ≡ f.declarations) (i : ℕ) (sort : Sort) (v : Value) (is : IsSortOfPlace f i sort) where
  pub on_place : is_member (widths_of items) sort v ≡ true → IsValueOn f i v
  on_place member = (sort, is, subst (λ ds. IsMember (widths_of ds) v sort) same member)

  pub off_place : is_member (widths_of items) sort v ≡ false → IsValueOn f i v → ⊥
  off_place outside (own, also, member) =
      false≢true (sym outside ∙ subst (λ ds. IsMember (widths_of ds) v sort) (sym same) (subst (IsMember (widths_of f.declarations) v) (sort_one f i sort own is also) member))

-- the arc of a number is one
pub one_arc : (f : Flat) (n : ℕ) (a b : FlatArc) → slice_get f.arcs n ≡ Some a → slice_get f.arcs n ≡ Some b → a ≡ b
one_arc f n a b is also = let both : Some a ≡ Some b = sym is ∙ also in cc

-- ---- values of a multiset

of_value_key : (P : Value → Type 0) (bag : List (Value × ℕ)) (v : Value) → Every (λ e. P e.0) bag → HasKey value_cmp bag v → P v
of_value_key P [] v all has = absurd has
of_value_key P (e ∷ bag) v all (inl same) = subst P (sym (values_apart v e.0 same)) all.0
of_value_key P (e ∷ bag) v all (inr later) = of_value_key P bag v all.1 later

-- where a place has a token, it is the token's own, and the value is among its values
at_place : (i : ℕ) (bag : List (Value × ℕ)) (k : Token) → 0 < count_at i bag k → (i ≡ k.place) × (0 < count_of value_cmp bag k.value)
at_place i bag k some = by (i == k.place) refl some
  where
    by : (b : Bool) → (i == k.place) ≡ b → 0 < cond b (count_of value_cmp bag k.value) 0 → (i ≡ k.place) × (0 < count_of value_cmp bag k.value)
    by true is more = (grind (arith, nat_tests), more)
    by false is more = absurd (omega (arith, more))

module _ (f : Flat) (vars : List ℕ) (given : List Value) (a : FlatArc) where
  -- the tokens of what an arc says are what it moves
  pub arc_moved : (bag says : List (Value × ℕ)) (m : List (Token × ℕ)) → IsArcBag f.declarations vars given a says → IsSame value_cmp bag says → Every (λ e. IsValueOn f a.place e.0) bag
      → IsBag token_cmp m → ((k : Token) → count_of token_cmp m k ≡ count_at a.place bag k) → IsMovedBy f vars given (a ∷ []) m
  arc_moved bag says m is same all bags counts =
      let alike : (k : Token) → count_at a.place bag k ≡ count_at a.place says k = λ k. ap (λ n. cond (a.place == k.place) n 0) (same k.value) in
      moved_of f vars given (a ∷ []) (says ∷ []) m bags (is, tt) (λ k. omega (arith, counts k, alike k))
      (λ k some. let there = at_place a.place bag k (omega (arith, some, alike k)) in
      subst (λ i. IsValueOn f i k.value) there.0 (of_value_key (IsValueOn f a.place) bag k.value all (has_entry value_cmp bag k.value there.1)))

  -- an arc has no total where a count in what it says is too large
  pub arc_too_large : ((says : List (Value × ℕ)) → IsArcBag f.declarations vars given a says → (v : Value) × (MAX_COUNT < count_of value_cmp says v)) → HasTotals f vars given (a ∷ []) → ⊥
  arc_too_large large is = by is.bags is.say is.fits
    where
      by : (bags : List (List (Value × ℕ))) → AllZip (IsArcBag f.declarations vars given) (a ∷ []) bags → ((k : Token) → sum_at (a ∷ []) bags k ≤ MAX_COUNT) → ⊥
      by [] say fits = absurd say
      by (says ∷ []) say fits =
          let big = large says say.0 in
          let here = count_here a.place says big.0 in
          omega (arith, big.1, here, fits (token_on a.place big.0))
      by (says ∷ more ∷ bags) say fits = absurd say.1

  -- nor where a value in it is not of the place's sort
  pub arc_outside : GivesOnce f.declarations vars given → (bag says : List (Value × ℕ)) (v : Value) → IsArcBag f.declarations vars given a says → IsSame value_cmp bag says → 0 < count_of value_cmp bag v
      → (IsValueOn f a.place v → ⊥) → HasTotals f vars given (a ∷ []) → ⊥
  arc_outside once bag says v is same some outside totals =
      let one = bags_once f.declarations vars given once (a ∷ []) totals.bags (says ∷ []) totals.say (is, tt) in
      let there : count_at a.place says (token_on a.place v) + 0 ≡ count_of value_cmp bag v = (let here = count_here a.place says v in omega (arith, here, same v)) in
      outside (totals.tokens (token_on a.place v) (subst (λ bs. 0 < sum_at (a ∷ []) bs (token_on a.place v)) (sym one) (omega (arith, there, some))))
