-- What the sum, the multiple and the image count.
use Rattle.std.proofs.Common.{◌≡◌, ◌≢◌, ℕ, zero, suc, ◌+◌, ◌*◌, ◌≤◌, List, [], ◌∷◌, refl, sym, ap, ◌∙◌, arith, inl, inr, Result, Ok, Err, OnOk}
use Rattle.std.specs.Cmp.{IsTotalOrder}
use Rattle.std.specs.Ordering.{match_ordering}
use Rattle.std.specs.declared.cmp.Ordering.{Ordering}
use Rattle.std.specs.declared.cmp.Ordering.TheVariants.{Less, Equal, Greater}
use Rattle.std.proofs.lemmas.Cmp.{tied_itself}
use Rattle.pn_bag.specs.Algebra.{inserted, added, joined, scaled, image_of, image_count, IsOneToOne, HasKey}
use Rattle.pn_bag.specs.Counts.{count_in, count_of, Every, IsSame, Includes}
use Rattle.pn_bag.proofs.Everywhere.{every_weaker}
use Rattle.pn_bag.proofs.Counting.{count_in_as, count_of_tied}
use Rattle.pn_bag.proofs.Editing.{count_in-add, count_in_zero, count_in_alike}
use Rattle.pn_bag.proofs.Sifting.{count_of-multiplied}

module _ {K : Type 0} {cmp : K → K → Ordering} (total : IsTotalOrder cmp) where
  pub count_of-inserted : (es : List (K × ℕ)) (new : K × ℕ) (key : K) → count_of cmp (inserted cmp es new) key ≡ count_of cmp es key + count_in cmp new key
  count_of-inserted [] new key = omega arith
  count_of-inserted (e ∷ es) new key = step (cmp new.0 e.0) refl (count_of-inserted es new key)
    where
      step : (o : Ordering) → cmp new.0 e.0 ≡ o → count_of cmp (inserted cmp es new) key ≡ count_of cmp es key + count_in cmp new key → count_of cmp (match_ordering o (new ∷ e ∷ es) ((e.0, e.1 + new.1) ∷ es) (e ∷ inserted cmp es new)) key ≡ count_in cmp e key + count_of cmp es key + count_in cmp new key
      step Less as_o rest = omega arith
      step Equal as_o rest = omega (arith, count_in-add cmp e.0 key e.1 new.1, count_in_alike total new.0 e.0 key new.1 as_o)
      step Greater as_o rest = omega (arith, rest)

  pub count_of-added : (es : List (K × ℕ)) (added_key : K) (n : ℕ) (key : K) → count_of cmp (added cmp es added_key n) key ≡ count_of cmp es key + count_in cmp (added_key, n) key
  count_of-added es added_key zero key = omega (arith, count_in_zero cmp added_key key)
  count_of-added es added_key (suc n) key = count_of-inserted es (added_key, suc n) key

  pub count_of-joined : (xs ys : List (K × ℕ)) (key : K) → count_of cmp (joined cmp xs ys) key ≡ count_of cmp xs key + count_of cmp ys key
  count_of-joined xs [] key = omega arith
  count_of-joined xs (y ∷ ys) key = omega (arith, count_of-joined (added cmp xs y.0 y.1) ys key, count_of-added xs y.0 y.1 key)

  -- the same, of what a call left behind
  pub lessened_on_ok : {T E : Type 0} (r : Result T E) (old less new : List (K × ℕ)) → OnOk r ((key : K) → count_of cmp new key + count_of cmp less key ≡ count_of cmp old key) → OnOk r (IsSame cmp (joined cmp new less) old)
  lessened_on_ok (Ok x) old less new counts = λ key. count_of-joined new less key ∙ counts key
  lessened_on_ok (Err e) old less new counts = tt

pub count_of-scaled : {K : Type 0} (cmp : K → K → Ordering) (n : ℕ) (es : List (K × ℕ)) (key : K) → count_of cmp (scaled n es) key ≡ n * count_of cmp es key
count_of-scaled cmp zero es key = omega arith
count_of-scaled cmp (suc n) es key = count_of-multiplied cmp (suc n) es key

module _ {K L : Type 0} (cmp : K → K → Ordering) {to_cmp : L → L → Ordering} (to_total : IsTotalOrder to_cmp) where
  pub count_of-image : (pairs : List (K × L)) (es : List (K × ℕ)) (key : L) → count_of to_cmp (image_of cmp to_cmp pairs es) key ≡ image_count cmp to_cmp pairs es key
  count_of-image [] es key = refl
  count_of-image (p ∷ pairs) es key =
      omega (arith, count_of-added to_total (image_of cmp to_cmp pairs es) p.1 (count_of cmp es p.0) key, count_of-image pairs es key)

  -- an entry's count depends on the count alone
  count_in_sum : (to key : L) (l m n : ℕ) → l ≡ m + n → count_in to_cmp (to, l) key ≡ count_in to_cmp (to, m) key + count_in to_cmp (to, n) key
  count_in_sum to key l m n is = ap (λ i. count_in to_cmp (to, i) key) is ∙ count_in-add to_cmp to key m n

  count_in_times : (to key : L) (l n m : ℕ) → l ≡ n * m → count_in to_cmp (to, l) key ≡ n * count_in to_cmp (to, m) key
  count_in_times to key l n m is = ap (λ i. count_in to_cmp (to, i) key) is ∙ step (to_cmp key to)
    where
      step : (o : Ordering) → match_ordering {X = ℕ} o 0 (n * m) 0 ≡ n * match_ordering {X = ℕ} o 0 m 0
      step Less = omega arith
      step Equal = refl
      step Greater = omega arith

  count_in_least : (to key : L) (m n : ℕ) → m ≤ n → count_in to_cmp (to, m) key ≤ count_in to_cmp (to, n) key
  count_in_least to key m n least = step (to_cmp key to)
    where
      step : (o : Ordering) → match_ordering {X = ℕ} o 0 m 0 ≤ match_ordering {X = ℕ} o 0 n 0
      step Less = omega arith
      step Equal = least
      step Greater = omega arith

  -- the image's counts of what has each count as a sum, as a multiple, or at most as great
  pub image_count_sum : (pairs : List (K × L)) (es xs ys : List (K × ℕ)) → ((key : K) → count_of cmp es key ≡ count_of cmp xs key + count_of cmp ys key) → (key : L) → image_count cmp to_cmp pairs es key ≡ image_count cmp to_cmp pairs xs key + image_count cmp to_cmp pairs ys key
  image_count_sum [] es xs ys sums key = refl
  image_count_sum (p ∷ pairs) es xs ys sums key =
      omega (arith, count_in_sum p.1 key _ _ _ (sums p.0), image_count_sum pairs es xs ys sums key)

  pub image_count_times : (n : ℕ) (pairs : List (K × L)) (es xs : List (K × ℕ)) → ((key : K) → count_of cmp es key ≡ n * count_of cmp xs key) → (key : L) → image_count cmp to_cmp pairs es key ≡ n * image_count cmp to_cmp pairs xs key
  image_count_times n [] es xs times key = omega arith
  image_count_times n (p ∷ pairs) es xs times key =
      grind (arith, count_in_times p.1 key _ n _ (times p.0), image_count_times n pairs es xs times key)

  pub image_count_least : (pairs : List (K × L)) (whole part : List (K × ℕ)) → Includes cmp whole part → (key : L) → image_count cmp to_cmp pairs part key ≤ image_count cmp to_cmp pairs whole key
  image_count_least [] whole part includes key = omega arith
  image_count_least (p ∷ pairs) whole part includes key =
      omega (arith, count_in_least p.1 key _ _ (includes p.0), image_count_least pairs whole part includes key)

  -- a key to which no pair goes has no count in the image
  image_count_other : (pairs : List (K × L)) (es : List (K × ℕ)) (key : L) → Every (λ other. to_cmp key other.1 ≢ Equal) pairs → image_count cmp to_cmp pairs es key ≡ 0
  image_count_other [] es key others = refl
  image_count_other (p ∷ pairs) es key others = step (to_cmp key p.1) refl (image_count_other pairs es key others.1)
    where
      step : (o : Ordering) → to_cmp key p.1 ≡ o → image_count cmp to_cmp pairs es key ≡ 0 → count_in to_cmp (p.1, count_of cmp es p.0) key + image_count cmp to_cmp pairs es key ≡ 0
      step Less as_o rest = omega (arith, rest, count_in_as to_cmp (p.1, count_of cmp es p.0) key Less as_o)
      step Equal as_o rest = absurd (others.0 as_o)
      step Greater as_o rest = omega (arith, rest, count_in_as to_cmp (p.1, count_of cmp es p.0) key Greater as_o)

pub scaled_on_ok : {K T E : Type 0} (cmp : K → K → Ordering) (r : Result T E) (n : ℕ) (old new : List (K × ℕ)) → OnOk r (new ≡ scaled n old) → OnOk r ((key : K) → count_of cmp new key ≡ n * count_of cmp old key)
scaled_on_ok cmp (Ok x) n old new is = λ key. ap (λ xs. count_of cmp xs key) is ∙ count_of-scaled cmp n old key
scaled_on_ok cmp (Err e) n old new is = tt

-- Inclusion of images, where no two pairs go to the same key
module _ {K L : Type 0} {cmp : K → K → Ordering} (total : IsTotalOrder cmp) {to_cmp : L → L → Ordering} (to_total : IsTotalOrder to_cmp) (whole part : List (K × ℕ)) where
  -- the new key of another pair
  tail_least : (p : K × L) (pairs : List (K × L)) → IsOneToOne to_cmp (p ∷ pairs) → ((key : L) → image_count cmp to_cmp (p ∷ pairs) part key ≤ image_count cmp to_cmp (p ∷ pairs) whole key) → (key : L) → image_count cmp to_cmp pairs part key ≤ image_count cmp to_cmp pairs whole key
  tail_least p pairs one least key = step (to_cmp key p.1) refl
    where
      step : (o : Ordering) → to_cmp key p.1 ≡ o → image_count cmp to_cmp pairs part key ≤ image_count cmp to_cmp pairs whole key
      step Less as_o = omega (arith, least key, count_in_as to_cmp (p.1, count_of cmp part p.0) key Less as_o, count_in_as to_cmp (p.1, count_of cmp whole p.0) key Less as_o)
      step Equal as_o =
          let others = every_weaker (λ other. to_cmp p.1 other.1 ≢ Equal) (λ other. to_cmp key other.1 ≢ Equal) (λ other apart same. apart (sym (to_total.congr key p.1 other.1 as_o) ∙ same)) pairs one.0 in
          omega (arith, image_count_other cmp to_total pairs part key others, image_count_other cmp to_total pairs whole key others)
      step Greater as_o = omega (arith, least key, count_in_as to_cmp (p.1, count_of cmp part p.0) key Greater as_o, count_in_as to_cmp (p.1, count_of cmp whole p.0) key Greater as_o)

  pub least_at_keys : (pairs : List (K × L)) → IsOneToOne to_cmp pairs → ((key : L) → image_count cmp to_cmp pairs part key ≤ image_count cmp to_cmp pairs whole key) → (key : K) → HasKey cmp pairs key → count_of cmp part key ≤ count_of cmp whole key
  least_at_keys [] one least key has = absurd has
  least_at_keys (p ∷ pairs) one least key has = elim has [
    | inl tied ↦
        let here = count_in_as to_cmp (p.1, count_of cmp part p.0) p.1 Equal (tied_itself to_total p.1) in
        let there = count_in_as to_cmp (p.1, count_of cmp whole p.0) p.1 Equal (tied_itself to_total p.1) in
        omega (arith, least p.1, here, there, image_count_other cmp to_total pairs part p.1 one.0, image_count_other cmp to_total pairs whole p.1 one.0, count_of_tied total part key p.0 tied, count_of_tied total whole key p.0 tied)
    | inr later ↦ least_at_keys pairs one.1 (tail_least p pairs one least) key later
  ]
