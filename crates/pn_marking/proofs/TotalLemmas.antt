-- The totals of some arcs, by those of the arcs before and behind.
use Rattle.std.proofs.Common.{◌≡◌, ◌<◌, ◌≤◌, ◌+◌, ◌++◌, inl, inr, ℕ, zero, suc, List, [], ◌∷◌, Option, None, Some, IfSome, refl, sym, ap, ◌∙◌, subst, arith}
use Rattle.std.specs.List.{AllZip}
use Rattle.pn_bag.specs.Bag.{IsBag}
use Rattle.pn_bag.specs.Counts.{Every, IsMultiset, IsSame, count_of}
use Rattle.pn_bag.specs.Algebra.{HasKey}
use Rattle.pn_bag.specs.declared.TheConstants.{MAX_COUNT}
use Rattle.pn_bag.proofs.Canonical.{entries_count, has_entry}
use Rattle.pn_bag.proofs.Everywhere.{every_both}
use Rattle.pn_bag.proofs.Walking.{count_bound}
use Rattle.pn_eval.specs.Outcomes.{multiset_of}
use Rattle.pn_eval.specs.Values.{HasValue}
use Rattle.pn_net.proofs.OrderLemmas.{marking_multiset}
use Rattle.pn_net.specs.Labels.{said}
use Rattle.pn_net.specs.Orders.{token_cmp, tokens_total}
use Rattle.pn_net.proofs.OrderLemmas.{same_tokens}
use Rattle.pn_net.specs.declared.flat.Flat.{Flat}
use Rattle.pn_net.specs.declared.flat.FlatArc.{FlatArc}
use Rattle.pn_net.specs.declared.token.Token.{Token}
use Rattle.pn_operations.specs.declared.outcome.Outcome.{Outcome}
use Rattle.pn_syntax.specs.declared.declaration.Declaration.{Declaration}
use Rattle.pn_syntax.specs.declared.term.Term.{Term}
use Rattle.pn_values.specs.declared.value.Value.{Value}
use Rattle.pn_marking.specs.Totals.{HasTotals, IsArcBag, IsMovedBy, IsTokenOf, SaysBag, sum_at}

-- ---- lists in step

zip_both : {A B : Type 0} (R : A → B → Type 0) (xs ys : List A) (bs cs : List B) → AllZip R xs bs → AllZip R ys cs → AllZip R (xs ++ ys) (bs ++ cs)
zip_both R [] ys [] cs first second = second
zip_both R [] ys (b ∷ bs) cs first second = absurd first
zip_both R (x ∷ xs) ys [] cs first second = absurd first
zip_both R (x ∷ xs) ys (b ∷ bs) cs first second = (first.0, zip_both R xs ys bs cs first.1 second)

-- what is in step with two lists is two parts
record ZipsApart {A B : Type 0} (R : A → B → Type 0) (xs ys : List A) (all : List B) : Type 0 where
  left : List B
  right : List B
  whole : all ≡ left ++ right
  first : AllZip R xs left
  second : AllZip R ys right

parts : {A B : Type 0} (R : A → B → Type 0) (xs ys : List A) (all : List B) → AllZip R (xs ++ ys) all → ZipsApart R xs ys all
parts R [] ys all is = record { left = []; right = all; whole = refl; first = tt; second = is }
parts R (x ∷ xs) ys [] is = absurd is
parts R (x ∷ xs) ys (b ∷ all) is =
    let rest = parts R xs ys all is.1 in
    record { left = b ∷ rest.left; right = rest.right; whole = ap (λ bs. b ∷ bs) rest.whole; first = (is.0, rest.first); second = rest.second }

-- ---- sums

sum_both : (R : FlatArc → List (Value × ℕ) → Type 0) (xs ys : List FlatArc) (bs cs : List (List (Value × ℕ))) (k : Token) → AllZip R xs bs → sum_at (xs ++ ys) (bs ++ cs) k ≡ sum_at xs bs k + sum_at ys cs k
sum_both R [] ys [] cs k is = omega arith
sum_both R [] ys (b ∷ bs) cs k is = absurd is
sum_both R (x ∷ xs) ys [] cs k is = absurd is
sum_both R (x ∷ xs) ys (b ∷ bs) cs k is = let rest = sum_both R xs ys bs cs k is.1 in omega (arith, rest)

-- ---- what an arc says is one multiset

-- a term gives one thing at most
abbrev pub GivesOnce : List Declaration → List ℕ → List Value → Type 0
GivesOnce items vars given = (e : Term) (o p : Outcome) → HasValue items vars given e o → HasValue items vars given e p → o ≡ p

module _ (items : List Declaration) (vars : List ℕ) (given : List Value) (once : GivesOnce items vars given) where
  says_once : (e : Option Term) (w : Option ℕ) (b c : List (Value × ℕ)) → SaysBag items vars given e w b → SaysBag items vars given e w c → b ≡ c
  says_once None w b c is also = is ∙ sym also
  says_once (Some e) w b c (o, value, is) (p, more, also) = let both : Some b ≡ Some c = sym is ∙ ap multiset_of (once e o p value more) ∙ also in cc

  pub bags_once : (arcs : List FlatArc) (bs cs : List (List (Value × ℕ))) → AllZip (IsArcBag items vars given) arcs bs → AllZip (IsArcBag items vars given) arcs cs → bs ≡ cs
  bags_once [] [] [] is also = refl
  bags_once [] [] (c ∷ cs) is also = absurd also
  bags_once [] (b ∷ bs) cs is also = absurd is
  bags_once (a ∷ arcs) [] cs is also = absurd is
  bags_once (a ∷ arcs) (b ∷ bs) [] is also = absurd also
  bags_once (a ∷ arcs) (b ∷ bs) (c ∷ cs) is also = λ i. says_once (said a.arc.inscription) (said a.arc.weight) b c is.0 also.0 i ∷ bags_once arcs bs cs is.1 also.1 i

-- ---- a marking and its counts

marking_bound : (m : List (Token × ℕ)) → IsBag token_cmp m → (k : Token) → count_of token_cmp m k ≤ MAX_COUNT
marking_bound m is k = count_bound tokens_total MAX_COUNT m is.rising is.counted k

-- what holds of each token that has a count
each_counted : (P : Token → Type 0) (m : List (Token × ℕ)) → IsBag token_cmp m → ((k : Token) → 0 < count_of token_cmp m k → P k) → Every (λ e. P e.0) m
each_counted P m is holds =
    every_both (λ e. count_of token_cmp m e.0 ≡ e.1) (λ e. (0 < e.1) × (e.1 ≤ MAX_COUNT)) (λ e. P e.0)
    (λ e same some. holds e.0 (subst (λ n. 0 < n) (sym same) some.0)) m (entries_count tokens_total m is.rising) is.counted

of_key : (P : Token → Type 0) (m : List (Token × ℕ)) (k : Token) → Every (λ e. P e.0) m → HasKey token_cmp m k → P k
of_key P [] k all has = absurd has
of_key P (e ∷ m) k all (inl same) = subst P (sym ((same_tokens k e.0).0 same)) all.0
of_key P (e ∷ m) k all (inr later) = of_key P m k all.1 later

pub counted_token : (P : Token → Type 0) (m : List (Token × ℕ)) → Every (λ e. P e.0) m → (k : Token) → 0 < count_of token_cmp m k → P k
counted_token P m all k some = of_key P m k all (has_entry token_cmp m k some)

-- ---- totals of arcs before and behind

module _ (f : Flat) (vars : List ℕ) (given : List Value) where
  abbrev Says : FlatArc → List (Value × ℕ) → Type 0
  Says = IsArcBag f.declarations vars given

  pub has_totals : (arcs : List FlatArc) (m : List (Token × ℕ)) → IsMovedBy f vars given arcs m → HasTotals f vars given arcs
  has_totals arcs m is = record {
    bags = is.bags;
    say = is.say;
    fits = λ k. subst (λ n. n ≤ MAX_COUNT) (is.sums k) (marking_bound m is.bag k);
    tokens = λ k some. counted_token (IsTokenOf f) m is.tokens k (subst (λ n. 0 < n) (sym (is.sums k)) some);
  }

  pub moved_of : (arcs : List FlatArc) (bags : List (List (Value × ℕ))) (m : List (Token × ℕ)) → IsBag token_cmp m → AllZip Says arcs bags → ((k : Token) → count_of token_cmp m k ≡ sum_at arcs bags k)
      → ((k : Token) → 0 < sum_at arcs bags k → IsTokenOf f k) → IsMovedBy f vars given arcs m
  moved_of arcs bags m is say sums tokens = record {
    bag = is;
    bags = bags;
    say = say;
    sums = sums;
    tokens = each_counted (IsTokenOf f) m is (λ k some. tokens k (subst (λ n. 0 < n) (sums k) some));
  }

  module _ (xs ys : List FlatArc) where
    pub totals_left : HasTotals f vars given (xs ++ ys) → HasTotals f vars given xs
    totals_left is =
        let p = parts Says xs ys is.bags is.say in
        let sum : (k : Token) → sum_at (xs ++ ys) is.bags k ≡ sum_at xs p.left k + sum_at ys p.right k = λ k. ap (λ bs. sum_at (xs ++ ys) bs k) p.whole ∙ sum_both Says xs ys p.left p.right k p.first in
        record { bags = p.left; say = p.first; fits = λ k. omega (arith, sum k, is.fits k); tokens = λ k some. is.tokens k (omega (arith, sum k, some)) }

    pub totals_right : HasTotals f vars given (xs ++ ys) → HasTotals f vars given ys
    totals_right is =
        let p = parts Says xs ys is.bags is.say in
        let sum : (k : Token) → sum_at (xs ++ ys) is.bags k ≡ sum_at xs p.left k + sum_at ys p.right k = λ k. ap (λ bs. sum_at (xs ++ ys) bs k) p.whole ∙ sum_both Says xs ys p.left p.right k p.first in
        record { bags = p.right; say = p.second; fits = λ k. omega (arith, sum k, is.fits k); tokens = λ k some. is.tokens k (omega (arith, sum k, some)) }

    module _ (a b : List (Token × ℕ)) (left : IsMovedBy f vars given xs a) (right : IsMovedBy f vars given ys b) where
      together : (k : Token) → sum_at (xs ++ ys) (left.bags ++ right.bags) k ≡ count_of token_cmp a k + count_of token_cmp b k
      together k = let sum = sum_both Says xs ys left.bags right.bags k left.say in omega (arith, sum, left.sums k, right.sums k)

      some_of : (k : Token) (m n : ℕ) → count_of token_cmp a k ≡ m → count_of token_cmp b k ≡ n → 0 < m + n → IsTokenOf f k
      some_of k zero n is also some = counted_token (IsTokenOf f) b right.tokens k (omega (arith, also, some))
      some_of k (suc m) n is also some = counted_token (IsTokenOf f) a left.tokens k (omega (arith, is))

      pub moved_both : (m : List (Token × ℕ)) → IsBag token_cmp m → ((k : Token) → count_of token_cmp m k ≡ count_of token_cmp a k + count_of token_cmp b k) → IsMovedBy f vars given (xs ++ ys) m
      moved_both m is counts =
          moved_of (xs ++ ys) (left.bags ++ right.bags) m is (zip_both Says xs ys left.bags right.bags left.say right.say) (λ k. counts k ∙ sym (together k))
          (λ k some. some_of k (count_of token_cmp a k) (count_of token_cmp b k) refl refl (subst (λ n. 0 < n) (together k) some))

      -- a count of both is too large
      pub too_large : GivesOnce f.declarations vars given → (k : Token) → MAX_COUNT < count_of token_cmp a k + count_of token_cmp b k → HasTotals f vars given (xs ++ ys) → ⊥
      too_large once k large is =
          let same = bags_once f.declarations vars given once (xs ++ ys) is.bags (left.bags ++ right.bags) is.say (zip_both Says xs ys left.bags right.bags left.say right.say) in
          let sum : sum_at (xs ++ ys) is.bags k ≡ count_of token_cmp a k + count_of token_cmp b k = ap (λ bs. sum_at (xs ++ ys) bs k) same ∙ together k in
          omega (arith, sum, is.fits k, large)

  -- two markings that the same arcs move are one
  pub moved_once : ((xs ys : List (Token × ℕ)) → IsMultiset token_cmp xs → IsMultiset token_cmp ys → IsSame token_cmp xs ys → xs ≡ ys) → GivesOnce f.declarations vars given → (arcs : List FlatArc) (a b : List (Token × ℕ)) → IsMovedBy f vars given arcs a → IsMovedBy f vars given arcs b → a ≡ b
  moved_once entries once arcs a b is also =
      let same = bags_once f.declarations vars given once arcs is.bags also.bags is.say also.say in
      entries a b (marking_multiset a is.bag) (marking_multiset b also.bag) (λ k. is.sums k ∙ ap (λ bs. sum_at arcs bs k) same ∙ sym (also.sums k))

pub same_some_marking : (a b : List (Token × ℕ)) → Some a ≡ Some b → a ≡ b
same_some_marking a b is = cc

-- ---- what halves of the arcs move

module _ (f : Flat) (vars : List ℕ) (given : List Value) (xs ys whole : List FlatArc) (halved : whole ≡ xs ++ ys) where
  pub both_some : (left right : Option (List (Token × ℕ))) → IfSome left (IsMovedBy f vars given xs) → IfSome right (IsMovedBy f vars given ys) → (o : Option (List (Token × ℕ)))
      → IfSome o (λ m. (a b : List (Token × ℕ)) × (left ≡ Some a) × (right ≡ Some b) × IsBag token_cmp m × ((k : Token) → count_of token_cmp m k ≡ count_of token_cmp a k + count_of token_cmp b k)) → IfSome o (IsMovedBy f vars given whole)
  both_some left right first second None is = tt
  both_some left right first second (Some m) (a, b, has, also, bag, counts) =
      subst (λ arcs. IsMovedBy f vars given arcs m) (sym halved)
      (moved_both f vars given xs ys a b (subst (λ o. IfSome o (IsMovedBy f vars given xs)) has first) (subst (λ o. IfSome o (IsMovedBy f vars given ys)) also second) m bag counts)

  pub both_none : GivesOnce f.declarations vars given → (left right : Option (List (Token × ℕ))) → IfSome left (IsMovedBy f vars given xs) → (left ≡ None → HasTotals f vars given xs → ⊥)
      → IfSome right (IsMovedBy f vars given ys) → (right ≡ None → HasTotals f vars given ys → ⊥)
      → ((a b : List (Token × ℕ)) → left ≡ Some a → right ≡ Some b → (k : Token) × (MAX_COUNT < count_of token_cmp a k + count_of token_cmp b k)) → HasTotals f vars given whole → ⊥
  both_none once None right first lacks second wants large totals = lacks refl (totals_left f vars given xs ys (subst (HasTotals f vars given) halved totals))
  both_none once (Some a) None first lacks second wants large totals = wants refl (totals_right f vars given xs ys (subst (HasTotals f vars given) halved totals))
  both_none once (Some a) (Some b) first lacks second wants large totals =
      let big = large a b refl refl in
      too_large f vars given xs ys a b first second once big.0 big.1 (subst (HasTotals f vars given) halved totals)
