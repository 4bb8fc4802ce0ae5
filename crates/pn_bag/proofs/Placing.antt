-- What a search learns of keys that rise from one comparison, and what an edit at a place does.
use Rattle.std.proofs.Common.{◌≡◌, ℕ, zero, suc, ◌<◌, List, [], ◌∷◌, ◌++◌, length, get_or, take, drop, sym, subst, arith}
use Rattle.std.specs.Cmp.{IsTotalOrder}
use Rattle.std.specs.declared.cmp.Ordering.{Ordering}
use Rattle.std.specs.declared.cmp.Ordering.TheVariants.{Less, Equal, Greater}
use Rattle.std.proofs.lemmas.Cmp.{tied_back}
use Rattle.std.proofs.lemmas.List.{take-append-drop, get_or_default, drop_all}
use Rattle.pn_bag.specs.Counts.{count_of, Every, IsRising}
use Rattle.pn_bag.specs.Places.{IsBefore, IsAt, IsGapFor}
use Rattle.pn_bag.proofs.Everywhere.{every_weaker, every_at, every_one}
use Rattle.pn_bag.proofs.Counting.{count_of-append, count_of_above, count_of_below, count_of_entry, above_all, less_tied, less_from_more}

module _ {K : Type 0} {cmp : K → K → Ordering} (total : IsTotalOrder cmp) where
  -- the keys up to one that is smaller are smaller
  pub smaller_to : (xs : List (K × ℕ)) (n : ℕ) (d : K × ℕ) (key : K) → IsRising cmp xs → n < length xs → cmp (get_or xs n d).0 key ≡ Less → IsBefore cmp xs key (suc n)
  smaller_to [] n d key rising within less = absurd (omega arith)
  smaller_to (x ∷ xs) zero d key rising within less = (less, tt)
  smaller_to (x ∷ xs) (suc n) d key rising within less =
      let below : cmp x.0 (get_or xs n d).0 ≡ Less = every_at (λ f. cmp x.0 f.0 ≡ Less) xs n d (omega arith) rising.0 in
      (total.trans x.0 (get_or xs n d).0 key below less, smaller_to xs n d key rising.1 (omega arith) less)

  -- the keys before one that is the key are smaller
  pub smaller_before : (xs : List (K × ℕ)) (n : ℕ) (d : K × ℕ) (key : K) → IsRising cmp xs → n < length xs → cmp (get_or xs n d).0 key ≡ Equal → IsBefore cmp xs key n
  smaller_before [] n d key rising within tied = absurd (omega arith)
  smaller_before (x ∷ xs) zero d key rising within tied = tt
  smaller_before (x ∷ xs) (suc n) d key rising within tied =
      let below : cmp x.0 (get_or xs n d).0 ≡ Less = every_at (λ f. cmp x.0 f.0 ≡ Less) xs n d (omega arith) rising.0 in
      (less_tied total x.0 (get_or xs n d).0 key below tied, smaller_before xs n d key rising.1 (omega arith) tied)

  -- the keys from one that is greater on are greater
  pub greater_from : (xs : List (K × ℕ)) (n : ℕ) (d : K × ℕ) (key : K) → IsRising cmp xs → n < length xs → cmp (get_or xs n d).0 key ≡ Greater → Every (λ e. cmp key e.0 ≡ Less) (drop n xs)
  greater_from [] n d key rising within more = absurd (omega arith)
  greater_from (x ∷ xs) zero d key rising within more =
      let less : cmp key x.0 ≡ Less = less_from_more total x.0 key more in
      (less, above_all total x xs key less rising.0)
  greater_from (x ∷ xs) (suc n) d key rising within more = greater_from xs n d key rising.1 (omega arith) more

  -- the key is at a place where it compares Equal
  pub is_at : (xs : List (K × ℕ)) (n : ℕ) (d : K × ℕ) (key : K) → IsRising cmp xs → n < length xs → cmp (get_or xs n d).0 key ≡ Equal → IsAt cmp xs key n
  is_at xs n d key rising within tied = record {
    within = within;
    before = smaller_before xs n d key rising within tied;
    equal = λ e. subst (λ x. cmp key x.0 ≡ Equal) (get_or_default xs n d e within) (tied_back total (get_or xs n d).0 key tied);
  }

  -- past the last entry nothing is greater
  pub gap_at_end : (xs : List (K × ℕ)) (key : K) → IsBefore cmp xs key (length xs) → IsGapFor cmp xs key (length xs)
  gap_at_end xs key before = record { within = omega arith; before = before; after = rw (drop_all (length xs) xs (omega arith)) tt }

  -- the counts that the two outcomes of a search give
  pub count_at : (xs : List (K × ℕ)) (n : ℕ) (d : K × ℕ) (key : K) → IsRising cmp xs → IsAt cmp xs key n → (get_or xs n d).1 ≡ count_of cmp xs key
  count_at xs n d key rising at = sym (count_of_entry total xs n d key rising at.within (at.equal d))

  pub count_in_gap : (xs : List (K × ℕ)) (n : ℕ) (key : K) → IsGapFor cmp xs key n → 0 ≡ count_of cmp xs key
  count_in_gap xs n key gap =
      let parts : count_of cmp (take n xs ++ drop n xs) key ≡ 0 = omega (arith, count_of-append cmp (take n xs) (drop n xs) key, count_of_below total (take n xs) key gap.before, count_of_above cmp (drop n xs) key gap.after) in
      sym (subst (λ ys. count_of cmp ys key ≡ 0) (take-append-drop n xs) parts)

  -- what is before a key is before each later key of a list that rises
  pub before_later : (xs needs : List (K × ℕ)) (n at : ℕ) (d : K × ℕ) → IsRising cmp needs → n < length needs → IsBefore cmp xs (get_or needs n d).0 at → Every (λ need. IsBefore cmp xs need.0 at) (drop (suc n) needs)
  before_later xs [] n at d rising within before = absurd (omega arith)
  before_later xs (need ∷ needs) zero at d rising within before =
      every_weaker (λ f. cmp need.0 f.0 ≡ Less) (λ f. IsBefore cmp xs f.0 at) (λ f below.
      every_weaker (λ e. cmp e.0 need.0 ≡ Less) (λ e. cmp e.0 f.0 ≡ Less) (λ e less. total.trans e.0 need.0 f.0 less below) (take at xs) before) needs rising.0
  before_later xs (need ∷ needs) (suc n) at d rising within before = before_later xs needs n at d rising.1 (omega arith) before

  -- nothing is before the first place
  pub nothing_before : (xs needs : List (K × ℕ)) → Every (λ need. IsBefore cmp xs need.0 0) needs
  nothing_before xs needs = every_one (λ need. IsBefore cmp xs need.0 0) (λ need. tt) needs
