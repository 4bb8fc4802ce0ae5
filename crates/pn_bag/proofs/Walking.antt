-- One walk over two lists whose keys rise: what is known at each step and at the end.
use Rattle.std.proofs.Common.{◌≡◌, ℕ, true, false, Option, Some, IsNone, is_some, suc, ◌+◌, ◌<◌, ◌≤◌, List, length, get_or, take, drop, sym, ap, ◌∙◌, subst, arith}
use Rattle.std.specs.Cmp.{IsTotalOrder}
use Rattle.std.specs.declared.cmp.Ordering.{Ordering}
use Rattle.std.specs.declared.cmp.Ordering.TheVariants.{Equal}
use Rattle.std.proofs.lemmas.Cmp.{tied_itself}
use Rattle.std.proofs.lemmas.List.{take_all}
use Rattle.pn_bag.specs.Counts.{count_in, count_of, Every, IsRising, Includes}
use Rattle.pn_bag.specs.Places.{IsBefore}
use Rattle.pn_bag.proofs.Everywhere.{every_at, every_more, every_next, every_weaker}
use Rattle.pn_bag.proofs.Counting.{count_of_entry, count_of_tied, count_of_below, count_of_more, at_each_key}
use Rattle.pn_bag.proofs.Placing.{before_later, smaller_before}

module _ {K : Type 0} {cmp : K → K → Ordering} (total : IsTotalOrder cmp) where
  -- an entry that was read has the count of its key
  pub count_of_read : (xs : List (K × ℕ)) (n : ℕ) (x : K × ℕ) → IsRising cmp xs → n < length xs → x ≡ get_or xs n x → count_of cmp xs x.0 ≡ x.1
  count_of_read xs n x rising within read =
      count_of_entry total xs n x x.0 rising within (subst (λ e. cmp x.0 e.0 ≡ Equal) read (tied_itself total x.0)) ∙ ap (λ e. e.1) (sym read)

  -- one step of a walk: what is before the key that was looked for is before each later key
  pub walked : (xs needs : List (K × ℕ)) (n at : ℕ) (x : K × ℕ) → IsRising cmp needs → n < length needs → x ≡ get_or needs n x → IsBefore cmp xs x.0 at → Every (λ need. IsBefore cmp xs need.0 at) (drop (n + 1) needs)
  walked xs needs n at x rising within read before =
      subst (λ i. Every (λ need. IsBefore cmp xs need.0 at) (drop i needs)) {x = suc n} (omega arith) (before_later total xs needs n at x rising within (subst (λ e. IsBefore cmp xs e.0 at) read before))

  -- at the next entry
  pub before_next : (xs needs : List (K × ℕ)) (n at : ℕ) (x : K × ℕ) → n < length needs → x ≡ get_or needs n x → Every (λ need. IsBefore cmp xs need.0 at) (drop n needs) → IsBefore cmp xs x.0 at
  before_next xs needs n at x within read all = subst (λ e. IsBefore cmp xs e.0 at) (sym read) (every_next (λ need. IsBefore cmp xs need.0 at) needs n x within all)

  -- the keys before an entry that was read are other keys
  pub not_before : (xs : List (K × ℕ)) (n : ℕ) (x : K × ℕ) → IsRising cmp xs → n < length xs → x ≡ get_or xs n x → count_of cmp (take n xs) x.0 ≡ 0
  not_before xs n x rising within read =
      count_of_below total (take n xs) x.0 (smaller_before total xs n x x.0 rising within (subst (λ e. cmp e.0 x.0 ≡ Equal) read (tied_itself total x.0)))

  -- where each entry's count is met, so is each key's
  pub includes_by_entries : (whole part : List (K × ℕ)) → IsRising cmp part → Every (λ e. e.1 ≤ count_of cmp whole e.0) part → Includes cmp whole part
  includes_by_entries whole part rising met =
      at_each_key total (λ key n. n ≤ count_of cmp whole key) (λ a b n tied le. omega (arith, count_of_tied total whole a b tied)) (λ key. omega arith) part rising met

  -- where each entry's sum fits, so does each key's
  pub fits_by_entries : (most : ℕ) (left right : List (K × ℕ)) → ((key : K) → count_of cmp left key ≤ most) → IsRising cmp right → Every (λ e. count_of cmp left e.0 + e.1 ≤ most) right → (key : K) → count_of cmp left key + count_of cmp right key ≤ most
  fits_by_entries most left right bound rising fitting =
      at_each_key total (λ key n. count_of cmp left key + n ≤ most) (λ a b n tied le. omega (arith, count_of_tied total left a b tied)) (λ key. omega (arith, bound key)) right rising fitting

  -- no count passes what no entry's count passes
  pub count_bound : (most : ℕ) (xs : List (K × ℕ)) → IsRising cmp xs → Every (λ e. (0 < e.1) × (e.1 ≤ most)) xs → (key : K) → count_of cmp xs key ≤ most
  count_bound most xs rising counted =
      at_each_key total (λ key n. n ≤ most) (λ a b n tied le. le) (λ key. omega arith) xs rising (every_weaker (λ e. (0 < e.1) × (e.1 ≤ most)) (λ e. e.1 ≤ most) (λ e both. both.1) xs counted)

-- what holds of each holds of one that was read
pub holds_read : {X : Type 0} (P : X → Type 0) (n : ℕ) (xs : List X) (x : X) → n < length xs → x ≡ get_or xs n x → Every P xs → P x
holds_read P n xs x within read all = subst P (sym read) (every_at P xs n x within all)

-- one more that was read
pub every_read : {X : Type 0} (P : X → Type 0) (n : ℕ) (xs : List X) (x : X) → n < length xs → x ≡ get_or xs n x → Every P (take n xs) → P x → Every P (take (n + 1) xs)
every_read P n xs x within read all here = subst (λ i. Every P (take i xs)) {x = suc n} (omega arith) (every_more P xs n x within all (subst P read here))

-- the counts of one more that was read
pub count_of_read_more : {K : Type 0} (cmp : K → K → Ordering) (n : ℕ) (xs : List (K × ℕ)) (x : K × ℕ) (key : K) → n < length xs → x ≡ get_or xs n x → count_of cmp (take (n + 1) xs) key ≡ count_of cmp (take n xs) key + count_in cmp x key
count_of_read_more cmp n xs x key within read =
    let here : count_in cmp (get_or xs n x) key ≡ count_in cmp x key = ap (λ e. count_in cmp e key) (sym read) in
    let next : count_of cmp (take (n + 1) xs) key ≡ count_of cmp (take (suc n) xs) key = ap (λ i. count_of cmp (take i xs) key) {x = n + 1} {y = suc n} (omega arith) in
    omega (arith, here, next, count_of_more cmp xs n x key within)

-- all that was taken, once nothing is left
pub every_taken : {X : Type 0} (P : X → Type 0) (n : ℕ) (xs : List X) → length xs ≤ n → Every P (take n xs) → Every P xs
every_taken P n xs done all = subst (Every P) (take_all n xs done) all

-- what was found is not nothing
pub found_is_some : {X : Type 0} (found : Option X) (x : X) → found ≡ Some x → IsNone found → ⊥
found_is_some found x is none = let clash : true ≡ false = ap is_some (sym is) ∙ none in cc
