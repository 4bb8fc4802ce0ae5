-- What stays where entries of count 0 are dropped, and where each count is multiplied.
use Rattle.std.proofs.Common.{◌≡◌, ◌↔◌, ℕ, zero, suc, ◌+◌, ◌*◌, ◌/◌, ◌<◌, ◌≤◌, Bool, true, false, cond, nat_lt, List, [], ◌∷◌, ◌++◌, length, get_or, set, take, drop, map, refl, sym, ap, ◌∙◌, subst, arith}
use Rattle.std.specs.List.{filter}
use Rattle.std.specs.Ordering.{match_ordering}
use Rattle.std.specs.declared.cmp.Ordering.{Ordering}
use Rattle.std.specs.declared.cmp.Ordering.TheVariants.{Less, Equal, Greater}
use Rattle.std.proofs.lemmas.Bool.{ltb-true, ltb-false}
use Rattle.pn_bag.specs.declared.TheConstants.{MAX_COUNT}
use Rattle.pn_bag.specs.Bag.{IsBag}
use Rattle.pn_bag.specs.Counts.{count_in, count_of, Every, IsRising}
use Rattle.pn_bag.proofs.Everywhere.{every_weaker, every_at}
use Rattle.pn_bag.proofs.Editing.{count_in_zero}

-- the entries that have a count
abbrev pub counted : {K : Type 0} → List (K × ℕ) → List (K × ℕ)
counted xs = filter (λ e. nat_lt 0 e.1) xs

module _ {K : Type 0} where
  every-counted : (P : K × ℕ → Type 0) (xs : List (K × ℕ)) → Every P xs → Every P (counted xs)
  every-counted P [] all = tt
  every-counted P (x ∷ xs) all = step (nat_lt 0 x.1) (every-counted P xs all.1)
    where
      step : (b : Bool) → Every P (counted xs) → Every P (cond b (x ∷ counted xs) (counted xs))
      step true rest = (all.0, rest)
      step false rest = rest

  every_counted_some : (xs : List (K × ℕ)) → Every (λ e. e.1 ≤ MAX_COUNT) xs → Every (λ e. (0 < e.1) × (e.1 ≤ MAX_COUNT)) (counted xs)
  every_counted_some [] all = tt
  every_counted_some (x ∷ xs) all = step (nat_lt 0 x.1) refl (every_counted_some xs all.1)
    where
      step : (b : Bool) → nat_lt 0 x.1 ≡ b → Every (λ e. (0 < e.1) × (e.1 ≤ MAX_COUNT)) (counted xs) → Every (λ e. (0 < e.1) × (e.1 ≤ MAX_COUNT)) (cond b (x ∷ counted xs) (counted xs))
      step true some rest = ((ltb-true 0 x.1 some, all.0), rest)
      step false none rest = rest

module _ {K : Type 0} (cmp : K → K → Ordering) where
  pub count_of-counted : (xs : List (K × ℕ)) (key : K) → count_of cmp (counted xs) key ≡ count_of cmp xs key
  count_of-counted [] key = refl
  count_of-counted (x ∷ xs) key = step (nat_lt 0 x.1) refl (count_of-counted xs key)
    where
      step : (b : Bool) → nat_lt 0 x.1 ≡ b → count_of cmp (counted xs) key ≡ count_of cmp xs key → count_of cmp (cond b (x ∷ counted xs) (counted xs)) key ≡ count_in cmp x key + count_of cmp xs key
      step true some rest = ap (λ n. count_in cmp x key + n) rest
      step false none rest =
          let nothing : x.1 ≡ 0 = omega (arith, ltb-false 0 x.1 none) in
          let gives : count_in cmp x key ≡ 0 = subst (λ n. match_ordering (cmp key x.0) 0 n 0 ≡ 0) (sym nothing) (count_in_zero cmp x.0 key) in
          omega (arith, gives, rest)

  rising-counted : (xs : List (K × ℕ)) → IsRising cmp xs → IsRising cmp (counted xs)
  rising-counted [] r = tt
  rising-counted (x ∷ xs) r = step (nat_lt 0 x.1) (rising-counted xs r.1)
    where
      step : (b : Bool) → IsRising cmp (counted xs) → IsRising cmp (cond b (x ∷ counted xs) (counted xs))
      step true rest = (every-counted (λ later. cmp x.0 later.0 ≡ Less) xs r.0, rest)
      step false rest = rest

  pub bag-counted : (xs : List (K × ℕ)) → IsRising cmp xs → Every (λ e. e.1 ≤ MAX_COUNT) xs → IsBag cmp (counted xs)
  bag-counted xs rising most = record { rising = rising-counted xs rising; counted = every_counted_some xs most }

-- the entries, each count multiplied
abbrev pub multiplied : {K : Type 0} → ℕ → List (K × ℕ) → List (K × ℕ)
multiplied n xs = map (λ e. (e.0, e.1 * n)) xs

-- a count that is within a quotient, multiplied, is within what was divided
within_quotient : (most by n : ℕ) → 0 < by → n ≤ most / by → by * n ≤ most
within_quotient most by n some within = grind (arith, Rattle.std.proofs.Math.Nat.mul-le-mul_left by within)

-- a count is past a quotient where it is, multiplied, past what was divided
pub above_quotient : (most by n : ℕ) → 0 < by → (most / by < n) ↔ (most < by * n)
above_quotient most by n some = subst (λ m. (most / by < n) ↔ (most < m)) {x = n * by} (grind arith) (Rattle.std.proofs.Math.Nat.div-lt_iff_lt-mul some)

pub product_some : (by n : ℕ) → 0 < by → 0 < n → 0 < by * n
product_some by n a b = grind (arith, Rattle.std.proofs.Math.Nat.mul-le-mul_left by b)

module _ {K : Type 0} where
  -- one more entry is multiplied
  pub multiplied_more : (n : ℕ) (xs now : List (K × ℕ)) (i : ℕ) (x : K × ℕ) → i < length xs → now ≡ multiplied n (take i xs) ++ drop i xs → x ≡ get_or now i x → set now i (x.0, x.1 * n) ≡ multiplied n (take (suc i) xs) ++ drop (suc i) xs
  multiplied_more n xs now i x within is read = ap (λ ys. set ys i (x.0, x.1 * n)) is ∙ go xs i within (subst (λ ys. x ≡ get_or ys i x) is read)
    where
      go : (xs : List (K × ℕ)) (i : ℕ) → i < length xs → x ≡ get_or (multiplied n (take i xs) ++ drop i xs) i x → set (multiplied n (take i xs) ++ drop i xs) i (x.0, x.1 * n) ≡ multiplied n (take (suc i) xs) ++ drop (suc i) xs
      go [] i within read = absurd (omega arith)
      go (y ∷ ys) zero within read = ap (λ e. (e.0, e.1 * n) ∷ ys) read
      go (y ∷ ys) (suc i) within read = ap (λ zs. (y.0, y.1 * n) ∷ zs) (go ys i (omega arith) read)

  -- what is not multiplied yet is as it was
  pub unmultiplied : (n : ℕ) (xs : List (K × ℕ)) (i : ℕ) (d : K × ℕ) → get_or (multiplied n (take i xs) ++ drop i xs) i d ≡ get_or xs i d
  unmultiplied n [] zero d = refl
  unmultiplied n [] (suc i) d = refl
  unmultiplied n (x ∷ xs) zero d = refl
  unmultiplied n (x ∷ xs) (suc i) d = unmultiplied n xs i d

  pub still_fits : (n most : ℕ) (xs now : List (K × ℕ)) (i : ℕ) (x : K × ℕ) → i < length xs → now ≡ multiplied n (take i xs) ++ drop i xs → x ≡ get_or now i x → Every (λ e. n * e.1 ≤ most) xs → n * x.1 ≤ most
  still_fits n most xs now i x within is read all =
      subst (λ e. n * e.1 ≤ most) (sym (read ∙ ap (λ ys. get_or ys i x) is ∙ unmultiplied n xs i x)) (every_at (λ e. n * e.1 ≤ most) xs i x within all)

  -- what is within a quotient is within what was divided, once it is multiplied
  pub every_within : (most by : ℕ) → 0 < by → (xs : List (K × ℕ)) → Every (λ e. e.1 ≤ most / by) xs → Every (λ e. by * e.1 ≤ most) xs
  every_within most by some xs = every_weaker (λ e. e.1 ≤ most / by) (λ e. by * e.1 ≤ most) (λ e within. within_quotient most by e.1 some within) xs

  pub every-multiplied : (P : K → Type 0) (n : ℕ) (xs : List (K × ℕ)) → Every (λ e. P e.0) xs → Every (λ e. P e.0) (multiplied n xs)
  every-multiplied P n [] all = tt
  every-multiplied P n (x ∷ xs) all = (all.0, every-multiplied P n xs all.1)

  multiplied_counted : (n : ℕ) → 0 < n → (xs : List (K × ℕ)) → Every (λ e. (0 < e.1) × (e.1 ≤ MAX_COUNT)) xs → Every (λ e. n * e.1 ≤ MAX_COUNT) xs → Every (λ e. (0 < e.1) × (e.1 ≤ MAX_COUNT)) (multiplied n xs)
  multiplied_counted n some [] all most = tt
  multiplied_counted n some (x ∷ xs) all most = ((grind (arith, product_some n x.1 some all.0.0), grind (arith, most.0)), multiplied_counted n some xs all.1 most.1)

module _ {K : Type 0} (cmp : K → K → Ordering) where
  pub rising-multiplied : (n : ℕ) (xs : List (K × ℕ)) → IsRising cmp xs → IsRising cmp (multiplied n xs)
  rising-multiplied n [] r = tt
  rising-multiplied n (x ∷ xs) r = (every-multiplied (λ k. cmp x.0 k ≡ Less) n xs r.0, rising-multiplied n xs r.1)

  pub bag-multiplied : (n : ℕ) → 0 < n → (xs : List (K × ℕ)) → IsBag cmp xs → Every (λ e. n * e.1 ≤ MAX_COUNT) xs → IsBag cmp (multiplied n xs)
  bag-multiplied n some xs bag most = record { rising = rising-multiplied n xs bag.rising; counted = multiplied_counted n some xs bag.counted most }

  count_in-multiplied : (n : ℕ) (x : K × ℕ) (key : K) → count_in cmp (x.0, x.1 * n) key ≡ n * count_in cmp x key
  count_in-multiplied n x key = step (cmp key x.0)
    where
      step : (o : Ordering) → match_ordering o 0 (x.1 * n) 0 ≡ n * match_ordering o 0 x.1 0
      step Less = omega arith
      step Equal = grind arith
      step Greater = omega arith

  pub count_of-multiplied : (n : ℕ) (xs : List (K × ℕ)) (key : K) → count_of cmp (multiplied n xs) key ≡ n * count_of cmp xs key
  count_of-multiplied n [] key = omega arith
  count_of-multiplied n (x ∷ xs) key = grind (arith, count_in-multiplied n x key, count_of-multiplied n xs key)
