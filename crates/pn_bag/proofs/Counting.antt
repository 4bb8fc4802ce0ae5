-- What the count of a key is in a list that is made of others, and among keys that rise.
use Rattle.std.proofs.Common.{◌≡◌, ◌==◌, true, ℕ, zero, suc, ◌+◌, ◌<◌, List, [], ◌∷◌, ◌++◌, length, get_or, set, take, refl, sym, ap, ◌∙◌, subst, arith}
use Rattle.std.specs.Cmp.{IsTotalOrder}
use Rattle.std.specs.Ordering.{match_ordering, ordering_reverse, ordering_index}
use Rattle.std.specs.declared.cmp.Ordering.{Ordering}
use Rattle.std.specs.declared.cmp.Ordering.TheVariants.{Less, Equal, Greater}
use Rattle.std.proofs.lemmas.Cmp.{tied_back, alike_right}
use Rattle.pn_bag.specs.Counts.{count_in, count_of, Every, IsRising}
use Rattle.pn_bag.proofs.Everywhere.{every_weaker, every_at}

-- the test `o == Ordering::Less`
pub less_from_index : (o : Ordering) → (ordering_index o == 0) ≡ true → o ≡ Less
less_from_index Less test = refl
less_from_index Equal test = cc
less_from_index Greater test = cc

module _ {K : Type 0} (cmp : K → K → Ordering) where
  -- the count that an entry gives, by how the keys compare
  pub count_in_as : (e : K × ℕ) (key : K) (o : Ordering) → cmp key e.0 ≡ o → count_in cmp e key ≡ match_ordering o 0 e.1 0
  count_in_as e key o as_o = ap (λ p. match_ordering p 0 e.1 0) as_o

  pub count_of-append : (xs ys : List (K × ℕ)) (key : K) → count_of cmp (xs ++ ys) key ≡ count_of cmp xs key + count_of cmp ys key
  count_of-append [] ys key = omega arith
  count_of-append (x ∷ xs) ys key = omega (arith, count_of-append xs ys key)

  -- an entry in place of another gives its count in place of the other's
  pub count_of-set : (xs : List (K × ℕ)) (n : ℕ) (x d : K × ℕ) (key : K) → n < length xs → count_of cmp (set xs n x) key + count_in cmp (get_or xs n d) key ≡ count_of cmp xs key + count_in cmp x key
  count_of-set [] n x d key within = absurd (omega arith)
  count_of-set (y ∷ xs) zero x d key within = omega arith
  count_of-set (y ∷ xs) (suc n) x d key within = omega (arith, count_of-set xs n x d key (omega arith))

  -- one more entry at the front
  pub count_of_more : (xs : List (K × ℕ)) (n : ℕ) (d : K × ℕ) (key : K) → n < length xs → count_of cmp (take (suc n) xs) key ≡ count_of cmp (take n xs) key + count_in cmp (get_or xs n d) key
  count_of_more [] n d key within = absurd (omega arith)
  count_of_more (x ∷ xs) zero d key within = omega arith
  count_of_more (x ∷ xs) (suc n) d key within = omega (arith, count_of_more xs n d key (omega arith))

  -- no key of the entries is the key
  pub count_of_above : (xs : List (K × ℕ)) (key : K) → Every (λ e. cmp key e.0 ≡ Less) xs → count_of cmp xs key ≡ 0
  count_of_above [] key all = refl
  count_of_above (x ∷ xs) key all = omega (arith, count_in_as x key Less all.0, count_of_above xs key all.1)

module _ {K : Type 0} {cmp : K → K → Ordering} (total : IsTotalOrder cmp) where
  pub more_from_less : (a b : K) → cmp a b ≡ Less → cmp b a ≡ Greater
  more_from_less a b less = total.antisymm b a ∙ ap ordering_reverse less

  pub less_from_more : (a b : K) → cmp a b ≡ Greater → cmp b a ≡ Less
  less_from_more a b more = total.antisymm b a ∙ ap ordering_reverse more

  pub tied_less : (a b c : K) → cmp a b ≡ Equal → cmp b c ≡ Less → cmp a c ≡ Less
  tied_less a b c tied less = total.congr a b c tied ∙ less

  pub less_tied : (a b c : K) → cmp a b ≡ Less → cmp b c ≡ Equal → cmp a c ≡ Less
  less_tied a b c less tied = sym (alike_right total b c a tied) ∙ less

  -- keys that compare Equal have the same count
  pub count_in_tied : (e : K × ℕ) (a b : K) → cmp a b ≡ Equal → count_in cmp e a ≡ count_in cmp e b
  count_in_tied e a b tied = ap (λ o. match_ordering o 0 e.1 0) (total.congr a b e.0 tied)

  pub count_of_tied : (xs : List (K × ℕ)) (a b : K) → cmp a b ≡ Equal → count_of cmp xs a ≡ count_of cmp xs b
  count_of_tied [] a b tied = refl
  count_of_tied (x ∷ xs) a b tied = omega (arith, count_in_tied x a b tied, count_of_tied xs a b tied)

  -- no key of the entries is the key
  pub count_of_below : (xs : List (K × ℕ)) (key : K) → Every (λ e. cmp e.0 key ≡ Less) xs → count_of cmp xs key ≡ 0
  count_of_below [] key all = refl
  count_of_below (x ∷ xs) key all = omega (arith, count_in_as cmp x key Greater (more_from_less x.0 key all.0), count_of_below xs key all.1)

  -- a key that is at most below the first is below all
  pub above_all : (e : K × ℕ) (xs : List (K × ℕ)) (key : K) → cmp key e.0 ≡ Less → Every (λ f. cmp e.0 f.0 ≡ Less) xs → Every (λ f. cmp key f.0 ≡ Less) xs
  above_all e xs key less all = every_weaker (λ f. cmp e.0 f.0 ≡ Less) (λ f. cmp key f.0 ≡ Less) (λ f below. total.trans key e.0 f.0 less below) xs all

  pub above_all_tied : (e : K × ℕ) (xs : List (K × ℕ)) (key : K) → cmp key e.0 ≡ Equal → Every (λ f. cmp e.0 f.0 ≡ Less) xs → Every (λ f. cmp key f.0 ≡ Less) xs
  above_all_tied e xs key tied all = every_weaker (λ f. cmp e.0 f.0 ≡ Less) (λ f. cmp key f.0 ≡ Less) (λ f below. tied_less key e.0 f.0 tied below) xs all

  -- where keys rise, an entry's count is the count of its key
  pub count_of_entry : (xs : List (K × ℕ)) (n : ℕ) (d : K × ℕ) (key : K) → IsRising cmp xs → n < length xs → cmp key (get_or xs n d).0 ≡ Equal → count_of cmp xs key ≡ (get_or xs n d).1
  count_of_entry [] n d key rising within tied = absurd (omega arith)
  count_of_entry (x ∷ xs) zero d key rising within tied = omega (arith, count_in_as cmp x key Equal tied, count_of_above cmp xs key (above_all_tied x xs key tied rising.0))
  count_of_entry (x ∷ xs) (suc n) d key rising within tied =
      let below : cmp x.0 (get_or xs n d).0 ≡ Less = every_at (λ f. cmp x.0 f.0 ≡ Less) xs n d (omega arith) rising.0 in
      let apart : cmp x.0 key ≡ Less = less_tied x.0 (get_or xs n d).0 key below (tied_back total key (get_or xs n d).0 tied) in
      omega (arith, count_in_as cmp x key Greater (more_from_less x.0 key apart), count_of_entry xs n d key rising.1 (omega arith) tied)

  -- where keys rise, what holds of each entry, and of the count 0, holds of each key's count
  pub at_each_key : (P : K → ℕ → Type 0) → ((a b : K) (n : ℕ) → cmp a b ≡ Equal → P b n → P a n) → ((key : K) → P key 0) → (xs : List (K × ℕ)) → IsRising cmp xs → Every (λ e. P e.0 e.1) xs → (key : K) → P key (count_of cmp xs key)
  at_each_key P moves none [] rising all key = none key
  at_each_key P moves none (x ∷ xs) rising all key = step (cmp key x.0) refl (at_each_key P moves none xs rising.1 all.1 key)
    where
      step : (o : Ordering) → cmp key x.0 ≡ o → P key (count_of cmp xs key) → P key (count_in cmp x key + count_of cmp xs key)
      step Less as_o rest = subst (P key) {x = count_of cmp xs key} (omega (arith, count_in_as cmp x key Less as_o)) rest
      step Equal as_o rest = subst (P key) {x = x.1} (omega (arith, count_in_as cmp x key Equal as_o, count_of_above cmp xs key (above_all_tied x xs key as_o rising.0))) (moves key x.0 x.1 as_o all.0)
      step Greater as_o rest = subst (P key) {x = count_of cmp xs key} (omega (arith, count_in_as cmp x key Greater as_o)) rest
