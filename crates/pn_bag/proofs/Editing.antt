-- What an edit of entries at a place does to the counts and to the order.
use Rattle.std.proofs.Common.{◌≡◌, ℕ, zero, suc, ◌+◌, ◌-◌, ◌<◌, ◌≤◌, List, [], ◌∷◌, ◌++◌, length, get_or, set, take, drop, refl, sym, ap, subst, arith}
use Rattle.std.specs.Cmp.{IsTotalOrder}
use Rattle.std.specs.List.{insert}
use Rattle.std.specs.Ordering.{match_ordering}
use Rattle.std.specs.declared.cmp.Ordering.{Ordering}
use Rattle.std.specs.declared.cmp.Ordering.TheVariants.{Less, Equal, Greater}
use Rattle.std.proofs.lemmas.Cmp.{alike_right}
use Rattle.std.proofs.lemmas.List.{take-append-drop}
use Rattle.pn_bag.specs.declared.TheConstants.{MAX_COUNT}
use Rattle.pn_bag.specs.Bag.{IsBag}
use Rattle.pn_bag.specs.Counts.{count_in, count_of, Every, IsRising}
use Rattle.pn_bag.specs.Places.{IsAt, IsGapFor}
use Rattle.pn_bag.proofs.Everywhere.{every_at, every_both, every_set, every-append, every_left, every_right}
use Rattle.pn_bag.proofs.Counting.{count_of-set}

-- an entry's count in two parts
pub count_in-add : {K : Type 0} (cmp : K → K → Ordering) (key q : K) (m n : ℕ) → count_in cmp (key, m + n) q ≡ count_in cmp (key, m) q + count_in cmp (key, n) q
count_in-add cmp key q m n = step (cmp q key)
  where
    step : (o : Ordering) → match_ordering o 0 (m + n) 0 ≡ match_ordering o 0 m 0 + match_ordering o 0 n 0
    step Less = refl
    step Equal = refl
    step Greater = refl

pub count_in_zero : {K : Type 0} (cmp : K → K → Ordering) (key q : K) → count_in cmp (key, 0) q ≡ 0
count_in_zero cmp key q = step (cmp q key)
  where
    step : (o : Ordering) → match_ordering {X = ℕ} o 0 0 0 ≡ 0
    step Less = refl
    step Equal = refl
    step Greater = refl

module _ {K : Type 0} (cmp : K → K → Ordering) where
  -- each key of xs is below each key of ys
  abbrev pub IsBelow : List (K × ℕ) → List (K × ℕ) → Type 0
  IsBelow xs ys = Every (λ x. Every (λ y. cmp x.0 y.0 ≡ Less) ys) xs

  pub rising-append : (xs ys : List (K × ℕ)) → IsRising cmp xs → IsRising cmp ys → IsBelow xs ys → IsRising cmp (xs ++ ys)
  rising-append [] ys rx ry below = ry
  rising-append (x ∷ xs) ys rx ry below = (every-append (λ y. cmp x.0 y.0 ≡ Less) xs ys rx.0 below.0, rising-append xs ys rx.1 ry below.1)

  pub rising_left : (xs ys : List (K × ℕ)) → IsRising cmp (xs ++ ys) → IsRising cmp xs
  rising_left [] ys r = tt
  rising_left (x ∷ xs) ys r = (every_left (λ y. cmp x.0 y.0 ≡ Less) xs ys r.0, rising_left xs ys r.1)

  pub rising_right : (xs ys : List (K × ℕ)) → IsRising cmp (xs ++ ys) → IsRising cmp ys
  rising_right [] ys r = r
  rising_right (x ∷ xs) ys r = rising_right xs ys r.1

  pub rising_across : (xs ys : List (K × ℕ)) → IsRising cmp (xs ++ ys) → IsBelow xs ys
  rising_across [] ys r = tt
  rising_across (x ∷ xs) ys r = (every_right (λ y. cmp x.0 y.0 ≡ Less) xs ys r.0, rising_across xs ys r.1)

  -- an entry in place of one with the same key keeps the order
  pub rising-set : (xs : List (K × ℕ)) (n : ℕ) (x d : K × ℕ) → IsRising cmp xs → n < length xs → (get_or xs n d).0 ≡ x.0 → IsRising cmp (set xs n x)
  rising-set [] n x d r within same = tt
  rising-set (y ∷ xs) zero x d r within same = (subst (λ k. Every (λ z. cmp k z.0 ≡ Less) xs) same r.0, r.1)
  rising-set (y ∷ xs) (suc n) x d r within same =
      let below : cmp y.0 (get_or xs n d).0 ≡ Less = every_at (λ z. cmp y.0 z.0 ≡ Less) xs n d (omega arith) r.0 in
      (every_set (λ z. cmp y.0 z.0 ≡ Less) xs n x r.0 (subst (λ k. cmp y.0 k ≡ Less) same below), rising-set xs n x d r.1 (omega arith) same)

  -- in its gap it keeps the order
  pub rising-insert : (xs : List (K × ℕ)) (at : ℕ) (new : K × ℕ) → IsRising cmp xs → IsGapFor cmp xs new.0 at → IsRising cmp (insert xs at new)
  rising-insert xs at new rising gap =
      let parts : IsRising cmp (take at xs ++ drop at xs) = subst (IsRising cmp) (sym (take-append-drop at xs)) rising in
      rising-append (take at xs) (new ∷ drop at xs) (rising_left (take at xs) (drop at xs) parts) (gap.after, rising_right (take at xs) (drop at xs) parts) (every_both (λ x. cmp x.0 new.0 ≡ Less) (λ x. Every (λ y. cmp x.0 y.0 ≡ Less) (drop at xs)) (λ x. Every (λ y. cmp x.0 y.0 ≡ Less) (new ∷ drop at xs)) (λ x a b. (a, b)) (take at xs) gap.before (rising_across (take at xs) (drop at xs) parts))

  pub bag-insert : (xs : List (K × ℕ)) (at : ℕ) (key : K) (n : ℕ) → IsBag cmp xs → IsGapFor cmp xs key at → 0 < n → n ≤ MAX_COUNT → IsBag cmp (insert xs at (key, n))
  bag-insert xs at key n bag gap some most = record {
    rising = rising-insert xs at (key, n) bag.rising gap;
    counted =
        let P = λ (e : K × ℕ). (0 < e.1) × (e.1 ≤ MAX_COUNT) in
        let parts : Every P (take at xs ++ drop at xs) = subst (Every P) (sym (take-append-drop at xs)) bag.counted in
        every-append P (take at xs) ((key, n) ∷ drop at xs) (every_left P (take at xs) (drop at xs) parts) ((some, most), every_right P (take at xs) (drop at xs) parts);
  }

  -- the count at a place, changed, where x and y were read there
  pub bag-set : (xs : List (K × ℕ)) (at : ℕ) (x : K × ℕ) (n : ℕ) → IsBag cmp xs → at < length xs → x ≡ get_or xs at x → 0 < n → n ≤ MAX_COUNT → IsBag cmp (set xs at (x.0, n))
  bag-set xs at x n bag within read some most = record {
    rising = rising-set xs at (x.0, n) x bag.rising within (ap (λ e. e.0) (sym read));
    counted = every_set (λ e. (0 < e.1) × (e.1 ≤ MAX_COUNT)) xs at (x.0, n) bag.counted (some, most);
  }

module _ {K : Type 0} {cmp : K → K → Ordering} (total : IsTotalOrder cmp) where
  -- the same count stands with keys that compare Equal
  pub count_in_alike : (a b q : K) (n : ℕ) → cmp a b ≡ Equal → count_in cmp (b, n) q ≡ count_in cmp (a, n) q
  count_in_alike a b q n tied = ap (λ o. match_ordering o 0 n 0) (sym (alike_right total a b q tied))

  pub count_of_lowered : (xs : List (K × ℕ)) (at : ℕ) (key : K) (x : K × ℕ) (n : ℕ) → IsAt cmp xs key at → x ≡ get_or xs at x → n ≤ x.1 → (q : K) → count_of cmp (set xs at (x.0, x.1 - n)) q + count_in cmp (key, n) q ≡ count_of cmp xs q
  count_of_lowered xs at key x n is_at read enough q =
      let tied : cmp key x.0 ≡ Equal = subst (λ e. cmp key e.0 ≡ Equal) (sym read) (is_at.equal x) in
      let old : count_in cmp (get_or xs at x) q ≡ count_in cmp (x.0, x.1) q = ap (λ e. count_in cmp e q) (sym read) in
      let whole : count_in cmp (x.0, x.1 - n + n) q ≡ count_in cmp (x.0, x.1) q = ap (λ m. count_in cmp (x.0, m) q) {x = x.1 - n + n} (omega arith) in
      omega (arith, old, whole, count_of-set cmp xs at (x.0, x.1 - n) x q is_at.within, count_in-add cmp x.0 q (x.1 - n) n, count_in_alike key x.0 q n tied)
