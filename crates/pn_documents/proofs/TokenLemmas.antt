-- The values on one place of a marking: a multiset of values of the sort of the place, and what stands on it.
use Rattle.std.proofs.Common.{◌≡◌, ◌<◌, ◌≤◌, ◌+◌, ◌==◌, ℕ, Bool, true, false, List, [], ◌∷◌, refl, sym, ap, ◌∙◌, subst, arith}
use Rattle.std.specs.Ordering.{nat_cmp, ordering_then}
use Rattle.std.specs.declared.cmp.Ordering.TheVariants.{Less, Equal}
use Rattle.std.proofs.lemmas.Bool.{false≢true}
use Rattle.std.proofs.lemmas.Bool.Decides.{nat_tests}
use Rattle.pn_bag.specs.Bag.{IsBag}
use Rattle.pn_bag.specs.Counts.{Every, IsRising, count_in, count_of}
use Rattle.pn_bag.specs.declared.TheConstants.{MAX_COUNT}
use Rattle.pn_carriers.specs.Members.{IsMember}
use Rattle.pn_checks.proofs.MarkLemmas.{other_place, same_place}
use Rattle.pn_checks.specs.Initial.{StandOn, token}
use Rattle.pn_marked.proofs.MarkedLemmas.{token_member, values_elsewhere, values_here}
use Rattle.pn_marked.specs.Marked.{values_on}
use Rattle.pn_marking.specs.Totals.{AreTokensOf, IsTokenOf}
use Rattle.pn_names.specs.Names.{widths_of}
use Rattle.pn_net.specs.Orders.{token_cmp}
use Rattle.pn_net.specs.Typed.{IsSortOfPlace}
use Rattle.pn_net.specs.declared.flat.Flat.{Flat}
use Rattle.pn_net.specs.declared.token.Token.{Token}
use Rattle.pn_values.specs.Order.{value_cmp}
use Rattle.pn_values.specs.declared.sort.Sort.{Sort}
use Rattle.pn_values.specs.declared.value.Value.{Value}

-- whether a token is on a place
at_place : (k : Token) (i : ℕ) → (k.place == i) ≡ true → i ≡ k.place
at_place k i is = grind (arith, nat_tests)

elsewhere : (k : Token) (i : ℕ) → (k.place == i) ≡ false → i ≡ k.place → ⊥
elsewhere k i is same = false≢true (sym is ∙ equal)
  where
    equal : (k.place == i) ≡ true
    equal = grind (arith, nat_tests)

module _ (i : ℕ) where
  -- what stands on the place
  pub stand_on : (m : List (Token × ℕ)) → StandOn m i (values_on m i)
  stand_on [] v = refl
  stand_on ((k, n) ∷ m) v = by (k.place == i) refl (stand_on m v)
    where
      by : (b : Bool) → (k.place == i) ≡ b → count_of token_cmp m (token i v) ≡ count_of value_cmp (values_on m i) v → count_of token_cmp ((k, n) ∷ m) (token i v) ≡ count_of value_cmp (values_on ((k, n) ∷ m) i) v
      by true is rest =
          let here = at_place k i is in
          (λ j. count_in token_cmp (token (sym here j) k.value, n) (token i v) + rest j)
          ∙ ap (λ c. c + count_of value_cmp (values_on m i) v) (same_place i n v k.value)
          ∙ ap (λ bag. count_of value_cmp bag v) (sym (values_here k n m i here))
      by false is rest =
          let there = elsewhere k i is in
          (λ j. other_place i k.place n v k.value there j + rest j) ∙ omega arith ∙ ap (λ bag. count_of value_cmp bag v) (sym (values_elsewhere k n m i there))

  -- what holds of the tokens on the place holds of the values
  pub every_on : (P : Token × ℕ → Type 0) (Q : Value × ℕ → Type 0) → ((k : Token) (n : ℕ) → i ≡ k.place → P (k, n) → Q (k.value, n)) → (m : List (Token × ℕ)) → Every P m → Every Q (values_on m i)
  every_on P Q to [] all = tt
  every_on P Q to ((k, n) ∷ m) all = by (k.place == i) refl (every_on P Q to m all.1)
    where
      by : (b : Bool) → (k.place == i) ≡ b → Every Q (values_on m i) → Every Q (values_on ((k, n) ∷ m) i)
      by true is rest = let here = at_place k i is in subst (Every Q) (sym (values_here k n m i here)) (to k n here all.0, rest)
      by false is rest = subst (Every Q) (sym (values_elsewhere k n m i (elsewhere k i is))) rest

  value_below : (k l : Token) → i ≡ k.place → i ≡ l.place → token_cmp k l ≡ Less → value_cmp k.value l.value ≡ Less
  value_below k l here there below =
      let same : nat_cmp k.place l.place ≡ Equal = grind (arith, nat_tests) in
      sym (ap (λ o. ordering_then o (value_cmp k.value l.value)) same) ∙ below

  rising_on : (m : List (Token × ℕ)) → IsRising token_cmp m → IsRising value_cmp (values_on m i)
  rising_on [] rising = tt
  rising_on ((k, n) ∷ m) rising = by (k.place == i) refl (rising_on m rising.1)
    where
      by : (b : Bool) → (k.place == i) ≡ b → IsRising value_cmp (values_on m i) → IsRising value_cmp (values_on ((k, n) ∷ m) i)
      by true is rest =
          let here = at_place k i is in
          subst (IsRising value_cmp) (sym (values_here k n m i here))
          (every_on (λ later. token_cmp k later.0 ≡ Less) (λ later. value_cmp k.value later.0 ≡ Less) (λ l c there below. value_below k l here there below) m rising.0, rest)
      by false is rest = subst (IsRising value_cmp) (sym (values_elsewhere k n m i (elsewhere k i is))) rest

  -- they are a multiset
  pub bag_on : (m : List (Token × ℕ)) → IsBag token_cmp m → IsBag value_cmp (values_on m i)
  bag_on m is = record {
    rising = rising_on m is.rising;
    counted = every_on (λ entry. (0 < entry.1) × (entry.1 ≤ MAX_COUNT)) (λ entry. (0 < entry.1) × (entry.1 ≤ MAX_COUNT)) (λ k n here counts. counts) m is.counted;
  }

  -- of the sort of the place
  pub members_on : (f : Flat) (s : Sort) → IsSortOfPlace f i s → (m : List (Token × ℕ)) → AreTokensOf f m → Every (λ entry. IsMember (widths_of f.declarations) entry.0 s) (values_on m i)
  members_on f s of_place =
      every_on (λ entry. IsTokenOf f entry.0) (λ entry. IsMember (widths_of f.declarations) entry.0 s) (λ k n here is. token_member f k s is (subst (λ j. IsSortOfPlace f j s) here of_place))
