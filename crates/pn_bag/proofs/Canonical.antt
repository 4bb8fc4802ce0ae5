-- Entries whose keys rise, as the one list that stands for a finite map.
use Rattle.std.proofs.Common.{◌≡◌, ℕ, zero, suc, ◌+◌, ◌<◌, List, [], ◌∷◌, refl, ap, ◌∙◌, arith, ◌⊎◌, inl, inr}
use Rattle.std.specs.Cmp.{IsTotalOrder}
use Rattle.std.specs.Ordering.{match_ordering}
use Rattle.std.specs.declared.cmp.Ordering.{Ordering}
use Rattle.std.specs.declared.cmp.Ordering.TheVariants.{Less, Equal, Greater}
use Rattle.std.proofs.lemmas.Cmp.{tied_itself}
use Rattle.pn_bag.specs.Algebra.{inserted, added, joined, scaled, image_of, HasKey}
use Rattle.pn_bag.specs.Counts.{count_in, count_of, Every, IsRising, IsSame, IsMultiset}
use Rattle.pn_bag.proofs.Everywhere.{every_both}
use Rattle.pn_bag.proofs.Counting.{count_in_as, count_of_above, more_from_less, less_from_more, above_all}
use Rattle.pn_bag.proofs.Sifting.{rising-multiplied, multiplied, product_some}

-- a key that has a count has an entry
pub has_entry : {K : Type 0} (cmp : K → K → Ordering) (xs : List (K × ℕ)) (key : K) → 0 < count_of cmp xs key → HasKey cmp xs key
has_entry cmp [] key some = absurd (omega arith)
has_entry cmp (x ∷ xs) key some = step (cmp key x.0) refl (has_entry cmp xs key)
  where
    step : (o : Ordering) → cmp key x.0 ≡ o → (0 < count_of cmp xs key → HasKey cmp xs key) → (cmp key x.0 ≡ Equal) ⊎ HasKey cmp xs key
    step Less as_o later = inr (later (omega (arith, some, count_in_as cmp x key Less as_o)))
    step Equal as_o later = inl as_o
    step Greater as_o later = inr (later (omega (arith, some, count_in_as cmp x key Greater as_o)))

module _ {K : Type 0} {cmp : K → K → Ordering} (total : IsTotalOrder cmp) where
  -- each entry has the count of its key
  pub entries_count : (xs : List (K × ℕ)) → IsRising cmp xs → Every (λ e. count_of cmp xs e.0 ≡ e.1) xs
  entries_count [] rising = tt
  entries_count (x ∷ xs) rising = (
    omega (arith, count_in_as cmp x x.0 Equal (tied_itself total x.0), count_of_above cmp xs x.0 rising.0),
    every_both (λ e. cmp x.0 e.0 ≡ Less) (λ e. count_of cmp xs e.0 ≡ e.1) (λ e. count_in cmp x e.0 + count_of cmp xs e.0 ≡ e.1) (λ e below is. omega (arith, is, count_in_as cmp x e.0 Greater (more_from_less total x.0 e.0 below))) xs rising.0 (entries_count xs rising.1),
  )

  -- what holds of each key, and of one more
  pub every_key-inserted : (P : K → Type 0) (xs : List (K × ℕ)) (new : K × ℕ) → P new.0 → Every (λ e. P e.0) xs → Every (λ e. P e.0) (inserted cmp xs new)
  every_key-inserted P [] new p all = (p, tt)
  every_key-inserted P (x ∷ xs) new p all = step (cmp new.0 x.0) (every_key-inserted P xs new p all.1)
    where
      step : (o : Ordering) → Every (λ e. P e.0) (inserted cmp xs new) → Every (λ e. P e.0) (match_ordering o (new ∷ x ∷ xs) ((x.0, x.1 + new.1) ∷ xs) (x ∷ inserted cmp xs new))
      step Less rest = (p, all)
      step Equal rest = all
      step Greater rest = (all.0, rest)

  rising-inserted : (xs : List (K × ℕ)) (new : K × ℕ) → IsRising cmp xs → IsRising cmp (inserted cmp xs new)
  rising-inserted [] new rising = (tt, tt)
  rising-inserted (x ∷ xs) new rising = step (cmp new.0 x.0) refl (rising-inserted xs new rising.1)
    where
      step : (o : Ordering) → cmp new.0 x.0 ≡ o → IsRising cmp (inserted cmp xs new) → IsRising cmp (match_ordering o (new ∷ x ∷ xs) ((x.0, x.1 + new.1) ∷ xs) (x ∷ inserted cmp xs new))
      step Less as_o rest = ((as_o, above_all total x xs new.0 as_o rising.0), rising)
      step Equal as_o rest = rising
      step Greater as_o rest = (every_key-inserted (λ k. cmp x.0 k ≡ Less) xs new (less_from_more total new.0 x.0 as_o) rising.0, rest)

  positive-inserted : (xs : List (K × ℕ)) (new : K × ℕ) → 0 < new.1 → Every (λ e. 0 < e.1) xs → Every (λ e. 0 < e.1) (inserted cmp xs new)
  positive-inserted [] new some all = (some, tt)
  positive-inserted (x ∷ xs) new some all = step (cmp new.0 x.0) (positive-inserted xs new some all.1)
    where
      step : (o : Ordering) → Every (λ e. 0 < e.1) (inserted cmp xs new) → Every (λ e. 0 < e.1) (match_ordering o (new ∷ x ∷ xs) ((x.0, x.1 + new.1) ∷ xs) (x ∷ inserted cmp xs new))
      step Less rest = (some, all)
      step Equal rest = (omega (arith, some), all.1)
      step Greater rest = (all.0, rest)

  multiset-added : (xs : List (K × ℕ)) (key : K) (n : ℕ) → IsMultiset cmp xs → IsMultiset cmp (added cmp xs key n)
  multiset-added xs key zero is = is
  multiset-added xs key (suc n) is = record {
    rising = rising-inserted xs (key, suc n) is.rising;
    positive = positive-inserted xs (key, suc n) (omega arith) is.positive;
  }

  pub multiset-joined : (xs ys : List (K × ℕ)) → IsMultiset cmp xs → IsMultiset cmp (joined cmp xs ys)
  multiset-joined xs [] is = is
  multiset-joined xs (y ∷ ys) is = multiset-joined (added cmp xs y.0 y.1) ys (multiset-added xs y.0 y.1 is)

  pub multiset-image : {J : Type 0} (from_cmp : J → J → Ordering) (pairs : List (J × K)) (es : List (J × ℕ)) → IsMultiset cmp (image_of from_cmp cmp pairs es)
  multiset-image from_cmp [] es = record { rising = tt; positive = tt }
  multiset-image from_cmp (p ∷ pairs) es =
      multiset-added (image_of from_cmp cmp pairs es) p.1 (count_of from_cmp es p.0) (multiset-image from_cmp pairs es)

positive-multiplied : {K : Type 0} (n : ℕ) → 0 < n → (xs : List (K × ℕ)) → Every (λ e. 0 < e.1) xs → Every (λ e. 0 < e.1) (multiplied n xs)
positive-multiplied n some [] all = tt
positive-multiplied n some (x ∷ xs) all = (grind (arith, product_some n x.1 some all.0), positive-multiplied n some xs all.1)

pub multiset-scaled : {K : Type 0} (cmp : K → K → Ordering) (n : ℕ) (xs : List (K × ℕ)) → IsMultiset cmp xs → IsMultiset cmp (scaled n xs)
multiset-scaled cmp zero xs is = record { rising = tt; positive = tt }
multiset-scaled cmp (suc n) xs is = record {
  rising = rising-multiplied cmp (suc n) xs is.rising;
  positive = positive-multiplied (suc n) (omega arith) xs is.positive;
}

module _ {K : Type 0} {cmp : K → K → Ordering} (total : IsTotalOrder cmp) (same_key : (a b : K) → cmp a b ≡ Equal → a ≡ b) where
  -- the count of the first key
  first_count : (x : K × ℕ) (xs : List (K × ℕ)) → IsRising cmp (x ∷ xs) → count_of cmp (x ∷ xs) x.0 ≡ x.1
  first_count x xs rising = (entries_count total (x ∷ xs) rising).0

  -- a first key below another list's keys has no count there
  absent : (x y : K × ℕ) (ys : List (K × ℕ)) → IsRising cmp (y ∷ ys) → cmp x.0 y.0 ≡ Less → count_of cmp (y ∷ ys) x.0 ≡ 0
  absent x y ys rising less = count_of_above cmp (y ∷ ys) x.0 (less, above_all total y ys x.0 less rising.0)

  pub same_entries : (xs ys : List (K × ℕ)) → IsMultiset cmp xs → IsMultiset cmp ys → IsSame cmp xs ys → xs ≡ ys
  same_entries [] [] mx my same = refl
  same_entries [] (y ∷ ys) mx my same = absurd (omega (arith, same y.0, first_count y ys my.rising, my.positive.0))
  same_entries (x ∷ xs) [] mx my same = absurd (omega (arith, same x.0, first_count x xs mx.rising, mx.positive.0))
  same_entries (x ∷ xs) (y ∷ ys) mx my same =
      step (cmp x.0 y.0) refl (same_entries xs ys (record { rising = mx.rising.1; positive = mx.positive.1 }) (record { rising = my.rising.1; positive = my.positive.1 }))
    where
      step : (o : Ordering) → cmp x.0 y.0 ≡ o → (IsSame cmp xs ys → xs ≡ ys) → x ∷ xs ≡ y ∷ ys
      step Less as_o later = absurd (omega (arith, same x.0, first_count x xs mx.rising, mx.positive.0, absent x y ys my.rising as_o))
      step Greater as_o later = absurd (omega (arith, same y.0, first_count y ys my.rising, my.positive.0, absent y x xs mx.rising (less_from_more total x.0 y.0 as_o)))
      step Equal as_o later =
          let keys = same_key x.0 y.0 as_o in
          let at_key = ap (λ k. count_of cmp (y ∷ ys) k) keys in
          let counts : x.1 ≡ y.1 = omega (arith, same x.0, at_key, first_count x xs mx.rising, first_count y ys my.rising) in
          let heads : x ≡ y = ap (λ k. (k, x.1)) keys ∙ ap (λ n. (y.0, n)) counts in
          let tails = later (λ key. omega (arith, same key, ap (λ e. count_in cmp e key) heads)) in
          ap (λ e. e ∷ xs) heads ∙ ap (λ es. y ∷ es) tails
