-- How the initial marking grows, place by place.
use Rattle.std.proofs.Common.{◌≡◌, ◌<◌, ◌≤◌, ◌+◌, ◌⊎◌, inl, inr, ℕ, zero, suc, List, [], ◌∷◌, ◌++◌, length, take, Option, None, Some, refl, sym, ap, ◌∙◌, subst, arith}
use Rattle.std.specs.List.{slice_get}
use Rattle.std.specs.Ordering.{match_ordering, nat_cmp, ordering_then}
use Rattle.std.specs.declared.cmp.Ordering.{Ordering}
use Rattle.std.specs.declared.cmp.Ordering.TheVariants.{Less, Equal, Greater}
use Rattle.std.proofs.lemmas.Bool.Decides.{nat_tests}
use Rattle.std.proofs.lemmas.List.{length-append, length-take-le}
use Rattle.std.proofs.lemmas.Option.{slice_get_past, slice_get_within}
use Rattle.pn_bag.specs.Bag.{IsBag}
use Rattle.pn_bag.specs.Counts.{Every, IsMultiset, IsSame, count_in, count_of}
use Rattle.pn_bag.specs.declared.TheConstants.{MAX_COUNT}
use Rattle.pn_checks.specs.Initial.{AreMarked, IsFirstBy, IsFirstOf, IsInitial, IsMarked, token}
use Rattle.pn_checks.specs.NoValue.{SaysMultiset}
use Rattle.pn_eval.specs.Outcomes.{multiset_of as said_by}
use Rattle.pn_eval.specs.Values.{HasValue}
use Rattle.pn_operations.specs.declared.outcome.Outcome.{Outcome}
use Rattle.pn_syntax.specs.declared.declaration.Declaration.{Declaration}
use Rattle.pn_facts.proofs.Lists.{take_got}
use Rattle.pn_net.proofs.OrderLemmas.{marking_multiset}
use Rattle.pn_net.specs.Labels.{said}
use Rattle.pn_net.specs.Orders.{token_cmp}
use Rattle.pn_net.specs.declared.flat.Flat.{Flat}
use Rattle.pn_net.specs.declared.token.Token.{Token}
use Rattle.pn_objects.specs.declared.object.Place.{Place}
use Rattle.pn_syntax.specs.declared.term.Term.{Term}
use Rattle.pn_values.specs.Order.{value_cmp}
use Rattle.pn_values.specs.declared.value.Value.{Value}

-- a token of one place counts for the tokens of that place alone
pub same_place : (i n : ℕ) (v w : Value) → count_in token_cmp (token i w, n) (token i v) ≡ count_in value_cmp (w, n) v
same_place i n v w =
    let same : nat_cmp i i ≡ Equal = grind (arith, nat_tests) in
    ap (λ o. match_ordering (ordering_then o (value_cmp v w)) 0 n 0) same

pub other_place : (i k n : ℕ) (v w : Value) → (i ≡ k → ⊥) → count_in token_cmp (token k w, n) (token i v) ≡ 0
other_place i k n v w differ = by (nat_cmp i k) refl
  where
    by : (o : Ordering) → nat_cmp i k ≡ o → match_ordering (ordering_then o (value_cmp v w)) 0 n 0 ≡ 0
    by Less is = refl
    by Equal is = let same : i ≡ k = grind (arith, nat_tests) in absurd (differ same)
    by Greater is = refl

-- the places up to the next one, by their numbers
three_ways : (j i : ℕ) → (j < i) ⊎ ((j ≡ i) ⊎ (i < j))
three_ways zero zero = inr (inl refl)
three_ways zero (suc i) = inl (omega arith)
three_ways (suc j) zero = inr (inr (omega arith))
three_ways (suc j) (suc i) = by (three_ways j i)
  where
    by : (j < i) ⊎ ((j ≡ i) ⊎ (i < j)) → (suc j < suc i) ⊎ ((suc j ≡ suc i) ⊎ (suc i < suc j))
    by (inl less) = inl (omega (arith, less))
    by (inr (inl same)) = inr (inl (ap suc same))
    by (inr (inr more)) = inr (inr (omega (arith, more)))

get_front : {X : Type 0} (xs ys : List X) (j : ℕ) → j < length xs → slice_get (xs ++ ys) j ≡ slice_get xs j
get_front [] ys j small = absurd (omega (arith, small))
get_front (x ∷ xs) ys zero small = refl
get_front (x ∷ xs) ys (suc j) small = get_front xs ys j (omega (arith, small))

get_last : {X : Type 0} (xs : List X) (x : X) (j : ℕ) → j ≡ length xs → slice_get (xs ++ x ∷ []) j ≡ Some x
get_last [] x zero is = refl
get_last [] x (suc j) is = absurd (omega (arith, is))
get_last (y ∷ xs) x zero is = absurd (omega (arith, is))
get_last (y ∷ xs) x (suc j) is = get_last xs x j (omega (arith, is))

module _ (SaysMultiset : Term → List (Value × ℕ) → Type 0) (old new : List (Token × ℕ)) where
  -- a place keeps what stands on it
  kept : (j : ℕ) (o : Option Place) → ((v : Value) → count_of token_cmp new (token j v) ≡ count_of token_cmp old (token j v)) → IsMarked SaysMultiset old j o → IsMarked SaysMultiset new j o
  kept j None same is = λ v. same v ∙ is v
  kept j (Some p) same (bag, first, stand) = (bag, first, λ v. same v ∙ stand v)

  -- the next place gets what it has at first, and the others keep what stands on them
  pub next_marked : (places : List Place) (i : ℕ) (p : Place) (bag : List (Value × ℕ)) → slice_get places i ≡ Some p → IsFirstOf SaysMultiset p bag → AreMarked SaysMultiset (take i places) old
      → ((v : Value) → count_of token_cmp new (token i v) ≡ count_of token_cmp old (token i v) + count_of value_cmp bag v)
      → ((j : ℕ) (v : Value) → (j ≡ i → ⊥) → count_of token_cmp new (token j v) ≡ count_of token_cmp old (token j v)) → AreMarked SaysMultiset (take (i + 1) places) new
  next_marked places i p bag is first marked here elsewhere j = subst (λ ps. IsMarked SaysMultiset new j (slice_get ps j)) (sym (take_got places i p is)) (by (three_ways j i))
    where
      front : List Place
      front = take i places

      size : length front ≡ i
      size = length-take-le i places (omega (arith, slice_get_within places i p is))

      empty : (v : Value) → count_of token_cmp old (token i v) ≡ 0
      empty v = (subst (IsMarked SaysMultiset old i) (slice_get_past front i (omega (arith, size))) (marked i)) v

      by : (j < i) ⊎ ((j ≡ i) ⊎ (i < j)) → IsMarked SaysMultiset new j (slice_get (front ++ p ∷ []) j)
      by (inl less) = subst (IsMarked SaysMultiset new j) (sym (get_front front (p ∷ []) j (omega (arith, less, size))))
          (kept j (slice_get front j) (λ v. elsewhere j v (λ same. omega (arith, less, same))) (marked j))
      by (inr (inl same)) = subst (IsMarked SaysMultiset new j) (sym (get_last front p j (same ∙ sym size)))
          (bag, first, λ v. ap (λ k. count_of token_cmp new (token k v)) same ∙ here v ∙ omega (arith, empty v))
      by (inr (inr more)) = subst (IsMarked SaysMultiset new j) (sym past)
          (λ v. elsewhere j v (λ same. omega (arith, more, same)) ∙ subst (IsMarked SaysMultiset old j) (slice_get_past front j (omega (arith, more, size))) (marked j) v)
        where
          past : slice_get (front ++ p ∷ []) j ≡ None
          past = slice_get_past (front ++ p ∷ []) j (omega (arith, length-append front (p ∷ []), more, size))

-- ---- one initial marking

-- terms say one multiset at most
abbrev pub SaysOnce : (Term → List (Value × ℕ) → Type 0) → Type 0
SaysOnce SaysMultiset = (e : Term) (b c : List (Value × ℕ)) → SaysMultiset e b → SaysMultiset e c → b ≡ c

-- a term without variables says one, where it gives one thing at most
pub says_once : (items : List Declaration) → ((e : Term) (o p : Outcome) → HasValue items [] [] e o → HasValue items [] [] e p → o ≡ p) → SaysOnce (SaysMultiset items)
says_once items once e b c (o, value, is) (p, also, that) = let both : Some b ≡ Some c = sym is ∙ ap said_by (once e o p value also) ∙ that in cc

module _ (SaysMultiset : Term → List (Value × ℕ) → Type 0) (once : SaysOnce SaysMultiset) where
  first_once : (term : Option Term) (number : Option ℕ) (b c : List (Value × ℕ)) → IsFirstBy SaysMultiset term number b → IsFirstBy SaysMultiset term number c → b ≡ c
  first_once None None b c first also = first ∙ sym also
  first_once None (Some n) b c first also = first ∙ sym also
  first_once (Some e) number b c first also = once e b c first also

  pub marked_once : (i : ℕ) (o : Option Place) (m k : List (Token × ℕ)) (v : Value) → IsMarked SaysMultiset m i o → IsMarked SaysMultiset k i o → count_of token_cmp m (token i v) ≡ count_of token_cmp k (token i v)
  marked_once i None m k v is also = is v ∙ sym (also v)
  marked_once i (Some p) m k v (b, first, stand) (c, second, others) =
      stand v ∙ ap (λ bag. count_of value_cmp bag v) (first_once (said p.hl_marking) (said p.marking) b c first second) ∙ sym (others v)

pub initial_once : ((xs ys : List (Token × ℕ)) → IsMultiset token_cmp xs → IsMultiset token_cmp ys → IsSame token_cmp xs ys → xs ≡ ys) → (f g : Flat) (m k : List (Token × ℕ)) → SaysOnce (SaysMultiset f.declarations)
    → f.places ≡ g.places → f.declarations ≡ g.declarations → IsInitial f m → IsInitial g k → m ≡ k
initial_once entries f g m k once same declared is also =
    let marked : AreMarked (SaysMultiset f.declarations) g.places k = subst (λ ds. AreMarked (SaysMultiset ds) g.places k) (sym declared) also.marked in
    entries m k (marking_multiset m is.bag) (marking_multiset k also.bag)
    (λ t. marked_once (SaysMultiset f.declarations) once t.place (slice_get f.places t.place) m k t.value (is.marked t.place) (subst (λ ps. IsMarked (SaysMultiset f.declarations) k t.place (slice_get ps t.place)) (sym same) (marked t.place)))
