-- One step of a merge from the greatest key down: what a last entry is, and what is left of the sum without it.
use Rattle.std.proofs.Common.{◌≡◌, ℕ, suc, ◌+◌, ◌<◌, ◌≤◌, List, [], ◌∷◌, ◌++◌, length, get_or, ap, ◌∙◌, subst, arith}
use Rattle.std.specs.Cmp.{IsTotalOrder}
use Rattle.std.specs.declared.cmp.Ordering.{Ordering}
use Rattle.std.specs.declared.cmp.Ordering.TheVariants.{Less, Equal, Greater}
use Rattle.std.proofs.lemmas.Cmp.{tied_itself, tied_back}
use Rattle.std.proofs.lemmas.List.{take_all, get_or_at, length-append}
use Rattle.pn_bag.specs.declared.TheConstants.{MAX_COUNT}
use Rattle.pn_bag.specs.Algebra.{joined}
use Rattle.pn_bag.specs.Bag.{IsBag}
use Rattle.pn_bag.specs.Counts.{count_in, count_of, Every, IsRising}
use Rattle.pn_bag.proofs.Everywhere.{every_weaker, every_left, every_right}
use Rattle.pn_bag.proofs.Counting.{count_in_as, count_of-append, less_tied, less_from_more}
use Rattle.pn_bag.proofs.Placing.{smaller_to}
use Rattle.pn_bag.proofs.Editing.{rising_left, rising_across}
use Rattle.pn_bag.proofs.Joining.{joined_to_left, joined_to_right, joined_to_both}

-- the last of a list, by its index
last_is : {X : Type 0} (xs ys : List X) (e d : X) (n : ℕ) → xs ≡ ys ++ e ∷ [] → n + 1 ≡ length xs → get_or xs n d ≡ e
last_is xs ys e d n is count =
    let here : length ys ≡ n = omega (arith, count, ap length is, length-append ys (e ∷ [])) in
    ap (λ zs. get_or zs n d) is ∙ get_or_at ys e [] d n here

module _ {K : Type 0} (cmp : K → K → Ordering) (xs ys : List (K × ℕ)) (e : K × ℕ) (is : xs ≡ ys ++ e ∷ []) where
  count_of_last : (key : K) → count_of cmp xs key ≡ count_of cmp ys key + count_in cmp e key
  count_of_last key = omega (arith, ap (λ zs. count_of cmp zs key) is, count_of-append cmp ys (e ∷ []) key)

  pub bag_front : IsBag cmp xs → IsBag cmp ys
  bag_front bag = record {
    rising = rising_left cmp ys (e ∷ []) (subst (IsRising cmp) is bag.rising);
    counted = every_left (λ x. (0 < x.1) × (x.1 ≤ MAX_COUNT)) ys (e ∷ []) (subst (Every (λ x. (0 < x.1) × (x.1 ≤ MAX_COUNT))) is bag.counted);
  }

  last_some : IsBag cmp xs → 0 < e.1
  last_some bag =
      let parts = every_right (λ x. (0 < x.1) × (x.1 ≤ MAX_COUNT)) ys (e ∷ []) (subst (Every (λ x. (0 < x.1) × (x.1 ≤ MAX_COUNT))) is bag.counted) in
      parts.0.0

  front_below : IsBag cmp xs → Every (λ y. cmp y.0 e.0 ≡ Less) ys
  front_below bag =
      every_weaker (λ y. Every (λ z. cmp y.0 z.0 ≡ Less) (e ∷ [])) (λ y. cmp y.0 e.0 ≡ Less) (λ y below. below.0) ys (rising_across cmp ys (e ∷ []) (subst (IsRising cmp) is bag.rising))

module _ {K : Type 0} {cmp : K → K → Ordering} (total : IsTotalOrder cmp) where
  -- all keys are below what the last is below
  all_below : (xs : List (K × ℕ)) (n : ℕ) (x : K × ℕ) (top : K) → IsRising cmp xs → n + 1 ≡ length xs → x ≡ get_or xs n x → cmp x.0 top ≡ Less → Every (λ x. cmp x.0 top ≡ Less) xs
  all_below xs n x top rising count read less =
      subst (Every (λ x. cmp x.0 top ≡ Less)) (take_all (suc n) xs (omega arith)) (smaller_to total xs n x top rising (omega arith) (subst (λ e. cmp e.0 top ≡ Less) read less))

  -- the last entry of one list, above all keys of the other
  pub takes_left : (xs zs ys : List (K × ℕ)) (e : K × ℕ) → xs ≡ ys ++ e ∷ [] → Every (λ z. cmp z.0 e.0 ≡ Less) zs → joined cmp xs zs ≡ joined cmp ys zs ++ e ∷ []
  takes_left xs zs ys e is below = ap (λ l. joined cmp l zs) is ∙ joined_to_left total ys zs e below

  pub takes_right : (zs xs ys : List (K × ℕ)) (e : K × ℕ) → xs ≡ ys ++ e ∷ [] → IsBag cmp xs → Every (λ z. cmp z.0 e.0 ≡ Less) zs → joined cmp zs xs ≡ joined cmp zs ys ++ e ∷ []
  takes_right zs xs ys e is bag below = ap (λ l. joined cmp zs l) is ∙ joined_to_right total zs ys e below (front_below cmp xs ys e is bag) (last_some cmp xs ys e is bag)

  -- the last entries of both lists, as they are read and as they are taken
  module _ (left right ys zs : List (K × ℕ)) (n m : ℕ) (x y : K × ℕ) (count_left : n + 1 ≡ length left) (count_right : m + 1 ≡ length right) (read_left : x ≡ get_or left n x) (read_right : y ≡ get_or right m y) (bag_left : IsBag cmp left) (bag_right : IsBag cmp right) where
    -- the greater of the two last keys
    pub takes_less : (e : K × ℕ) → right ≡ zs ++ e ∷ [] → cmp x.0 y.0 ≡ Less → joined cmp left right ≡ joined cmp left zs ++ e ∷ []
    takes_less e is less =
        takes_right left right zs e is bag_right (all_below left n x e.0 bag_left.rising count_left read_left (subst (λ z. cmp x.0 z.0 ≡ Less) (read_right ∙ last_is right zs e y m is count_right) less))

    pub takes_more : (e : K × ℕ) → left ≡ ys ++ e ∷ [] → cmp x.0 y.0 ≡ Greater → joined cmp left right ≡ joined cmp ys right ++ e ∷ []
    takes_more e is more =
        takes_left left right ys e is (all_below right m y e.0 bag_right.rising count_right read_right (subst (λ z. cmp y.0 z.0 ≡ Less) (read_left ∙ last_is left ys e x n is count_left) (less_from_more total x.0 y.0 more)))

  module _ (left right ys zs : List (K × ℕ)) (e f : K × ℕ) (n m : ℕ) (x y : K × ℕ) (is_left : left ≡ ys ++ e ∷ []) (is_right : right ≡ zs ++ f ∷ []) (count_left : n + 1 ≡ length left) (count_right : m + 1 ≡ length right) (read_left : x ≡ get_or left n x) (read_right : y ≡ get_or right m y) (tied : cmp x.0 y.0 ≡ Equal) where
    lasts_tied : cmp e.0 f.0 ≡ Equal
    lasts_tied = subst (λ z. cmp e.0 z.0 ≡ Equal) (read_right ∙ last_is right zs f y m is_right count_right) (subst (λ z. cmp z.0 y.0 ≡ Equal) (read_left ∙ last_is left ys e x n is_left count_left) tied)

    -- the sum of the two counts fits, where the sum for each key does
    pub lasts_fit : ((key : K) → count_of cmp left key + count_of cmp right key ≤ MAX_COUNT) → e.1 + f.1 ≤ MAX_COUNT
    lasts_fit fits =
        omega (arith, fits e.0, count_of_last cmp left ys e is_left e.0, count_of_last cmp right zs f is_right e.0, count_in_as cmp e e.0 Equal (tied_itself total e.0), count_in_as cmp f e.0 Equal lasts_tied)

    -- both last entries, as one, with the key of the first
    pub takes_both : IsBag cmp left → IsBag cmp right → joined cmp left right ≡ joined cmp ys zs ++ (e.0, e.1 + f.1) ∷ []
    takes_both bag_left bag_right =
        let below_left = front_below cmp left ys e is_left bag_left in
        let below_right = front_below cmp right zs f is_right bag_right in
        ap (λ l. joined cmp l right) is_left ∙ ap (λ l. joined cmp (ys ++ e ∷ []) l) is_right
        ∙ joined_to_both total ys zs e f lasts_tied (every_weaker (λ z. cmp z.0 e.0 ≡ Less) (λ z. cmp z.0 f.0 ≡ Less) (λ z less. less_tied total z.0 e.0 f.0 less lasts_tied) ys below_left)
        (every_weaker (λ z. cmp z.0 f.0 ≡ Less) (λ z. cmp z.0 e.0 ≡ Less) (λ z less. less_tied total z.0 f.0 e.0 less (tied_back total e.0 f.0 lasts_tied)) zs below_right)
        below_right (last_some cmp right zs f is_right bag_right)
