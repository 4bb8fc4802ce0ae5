-- Where offsets rise, each is that of one thing; and of two least faults the offset and the number are the same.
use Rattle.std.proofs.Common.{◌≡◌, ◌⊎◌, inl, inr, ℕ, ◌<◌, List, [], ◌∷◌, ◌++◌, map, false, refl, sym, ap, ◌∙◌, subst, arith}
use Rattle.std.specs.List.{Contains, flat_map}
use Rattle.std.specs.Ordering.{nat_cmp, is_lt, ordering_then, ordering_reverse}
use Rattle.std.specs.declared.cmp.Ordering.{Ordering}
use Rattle.std.specs.declared.cmp.Ordering.TheVariants.{Less, Equal, Greater}
use Rattle.std.proofs.lemmas.Bool.Decides.{nat_tests}
use Rattle.std.proofs.lemmas.List.Elements.{Contains-append_left, Contains-append_right}
use Rattle.pn_facts.proofs.Contained.{contains_all_of, contains_nil, contains_cases, contains_first}
use Rattle.pn_faults.specs.declared.fault.Fault.{Fault}
use Rattle.pn_faults.specs.Order.{fault_cmp, comes_before}
use Rattle.pn_faults.specs.Reasons.{number_of, phase_of}
use Rattle.pn_faults.specs.Rising.{Rise}
use Rattle.pn_faults.proofs.LeastLemmas.{faults_total}

-- numbers that rise: the front, the rest, and the one below the other
pub rise_front : (xs ys : List ℕ) → Rise (xs ++ ys) → Rise xs
rise_front [] ys h = tt
rise_front (x ∷ xs) ys (below, rises) = (λ m c. below m (Contains-append_left xs ys m c), rise_front xs ys rises)

pub rise_rest : (xs ys : List ℕ) → Rise (xs ++ ys) → Rise ys
rise_rest [] ys h = h
rise_rest (x ∷ xs) ys (below, rises) = rise_rest xs ys rises

rise_across : (xs ys : List ℕ) (n : ℕ) → Rise (xs ++ ys) → Contains xs n → Contains ys n → ⊥
rise_across [] ys n h c d = contains_nil n c
rise_across (x ∷ xs) ys n (below, rises) c d = step (contains_cases x xs n c) (rise_across xs ys n rises)
  where
    step : (x ≡ n) ⊎ Contains xs n → (Contains xs n → Contains ys n → ⊥) → ⊥
    step (inl same) more = let lt : n < n = subst (λ k. k < n) same (below n (Contains-append_right xs ys n d)) in omega (arith, lt)
    step (inr there) more = more there d

-- of things whose numbers rise one by one, each number is of one thing
pub of_one : {X : Type 0} (f : X → List ℕ) (xs : List X) → Rise (flat_map f xs) → (x y : X) (n : ℕ) → Contains xs x → Contains xs y → Contains (f x) n → Contains (f y) n → x ≡ y
of_one f [] rises x y n c d a b = absurd (contains_nil x c)
of_one f (z ∷ zs) rises x y n c d a b = step (contains_cases z zs x c) (contains_cases z zs y d) (of_one f zs (rise_rest (f z) (flat_map f zs) rises) x y n)
  where
    step : (z ≡ x) ⊎ Contains zs x → (z ≡ y) ⊎ Contains zs y → (Contains zs x → Contains zs y → Contains (f x) n → Contains (f y) n → x ≡ y) → x ≡ y
    step (inl p) (inl q) more = sym p ∙ q
    step (inl p) (inr there) more = absurd (rise_across (f z) (flat_map f zs) n rises (subst (λ w. Contains (f w) n) (sym p) a) (contains_all_of f zs y n there b))
    step (inr there) (inl q) more = absurd (rise_across (f z) (flat_map f zs) n rises (subst (λ w. Contains (f w) n) (sym q) b) (contains_all_of f zs x n there a))
    step (inr here) (inr there) more = more here there a b

pub rise_one : {X : Type 0} (f : X → List ℕ) (xs : List X) (x : X) → Contains xs x → Rise (flat_map f xs) → Rise (f x)
rise_one f [] x c rises = absurd (contains_nil x c)
rise_one f (y ∷ ys) x c rises = step (contains_cases y ys x c) (λ there. rise_one f ys x there (rise_rest (f y) (flat_map f ys) rises))
  where
    step : (y ≡ x) ⊎ Contains ys x → (Contains ys x → Rise (f x)) → Rise (f x)
    step (inl same) more = subst (λ z. Rise (f z)) same (rise_front (f y) (flat_map f ys) rises)
    step (inr there) more = more there

-- what things give, one by one
pub all_joined : {A : Type 0} (f : A → List ℕ) (xs : List A) → flat_map (λ vs. vs) (map f xs) ≡ flat_map f xs
all_joined f [] = refl
all_joined f (x ∷ xs) = ap (λ ys. f x ++ ys) (all_joined f xs)

-- the second is the first thing or a part in it
pub data IsWithin {X : Type 0} (parts : X → List X) : X → X → Type 0 where
  itself : (e x : X) → x ≡ e → IsWithin parts e x
  inside : (e x p : X) → Contains (parts e) p → IsWithin parts p x → IsWithin parts e x

-- things with parts, where the offsets in one are its own and then those of its parts
module _ {X : Type 0} (own : X → List ℕ) (parts : X → List X) (offsets : X → List ℕ) (offsets_are : (e : X) → offsets e ≡ own e ++ flat_map offsets (parts e)) where
  -- the offsets of a part are among them
  pub part_offset : (e x : X) (n : ℕ) → IsWithin parts e x → Contains (own x) n → Contains (offsets e) n
  part_offset e x n (itself _ _ same) c = subst (λ ns. Contains ns n) (sym (offsets_are e)) (Contains-append_left (own e) (flat_map offsets (parts e)) n (subst (λ y. Contains (own y) n) same c))
  part_offset e x n (inside _ _ p c rest) d =
      subst (λ ns. Contains ns n) (sym (offsets_are e)) (Contains-append_right (own e) (flat_map offsets (parts e)) n (contains_all_of offsets (parts e) p n c (part_offset p x n rest d)))

  rises : (e : X) → Rise (offsets e) → Rise (own e ++ flat_map offsets (parts e))
  rises e ordered = subst Rise (offsets_are e) ordered

  rising_part : (e p : X) → Rise (offsets e) → Contains (parts e) p → Rise (offsets p)
  rising_part e p ordered c = rise_one offsets (parts e) p c (rise_rest (own e) (flat_map offsets (parts e)) (rises e ordered))

  -- where they rise, those of each part do
  pub own_rise : (e x : X) → Rise (offsets e) → IsWithin parts e x → Rise (own x)
  own_rise e x ordered (itself _ _ same) = subst (λ y. Rise (own y)) (sym same) (rise_front (own e) (flat_map offsets (parts e)) (rises e ordered))
  own_rise e x ordered (inside _ _ p c rest) = own_rise p x (rising_part e p ordered c) rest

  not_inside : (e p y : X) (n : ℕ) → Rise (offsets e) → Contains (parts e) p → IsWithin parts p y → Contains (own e) n → Contains (own y) n → ⊥
  not_inside e p y n ordered c part h k = rise_across (own e) (flat_map offsets (parts e)) n (rises e ordered) h (contains_all_of offsets (parts e) p n c (part_offset p y n part k))

  -- and each is that of one part
  pub one_owner : (e x y : X) (n : ℕ) → Rise (offsets e) → IsWithin parts e x → IsWithin parts e y → Contains (own x) n → Contains (own y) n → x ≡ y
  one_owner e x y n ordered (itself _ _ is) (itself _ _ also) h k = is ∙ sym also
  one_owner e x y n ordered (itself _ _ is) (inside _ _ q d more) h k = absurd (not_inside e q y n ordered d more (subst (λ z. Contains (own z) n) is h) k)
  one_owner e x y n ordered (inside _ _ p c rest) (itself _ _ also) h k = absurd (not_inside e p x n ordered c rest (subst (λ z. Contains (own z) n) also k) h)
  one_owner e x y n ordered (inside _ _ p c rest) (inside _ _ q d more) h k =
      let one : q ≡ p = of_one offsets (parts e) (rise_rest (own e) (flat_map offsets (parts e)) (rises e ordered)) q p n d c (part_offset q y n more k) (part_offset p x n rest h) in
      one_owner p x y n (rising_part e p ordered c) rest (subst (λ z. IsWithin parts z y) one more) h k

-- the same of things with one offset each
module _ {X : Type 0} (at : X → ℕ) (parts : X → List X) (offsets : X → List ℕ) (offsets_at : (e : X) → offsets e ≡ at e ∷ flat_map offsets (parts e)) where
  pub place_offset : (e x : X) → IsWithin parts e x → Contains (offsets e) (at x)
  place_offset e x part = part_offset (λ z. at z ∷ []) parts offsets offsets_at e x (at x) part (contains_first (at x) [])

  pub one_place : (e x y : X) → Rise (offsets e) → IsWithin parts e x → IsWithin parts e y → at x ≡ at y → x ≡ y
  one_place e x y ordered part also same =
      one_owner (λ z. at z ∷ []) parts offsets offsets_at e x y (at x) ordered part also (contains_first (at x) []) (subst (Contains (at y ∷ [])) (sym same) (contains_first (at y) []))

-- two faults of which neither comes before the other are at one offset, and of one number
equal_by : (o p : Ordering) → o ≡ ordering_reverse p → is_lt o ≡ false → is_lt p ≡ false → o ≡ Equal
equal_by Less p is h k = absurd (let bad : is_lt Less ≡ false = h in cc)
equal_by Equal p is h k = refl
equal_by Greater Less is h k = absurd (let bad : is_lt Less ≡ false = k in cc)
equal_by Greater Equal is h k = absurd (let bad : Greater ≡ Equal = is in cc)
equal_by Greater Greater is h k = absurd (let bad : Greater ≡ Less = is in cc)

both_equal : (o p : Ordering) → ordering_then o p ≡ Equal → (o ≡ Equal) × (p ≡ Equal)
both_equal Less p h = absurd (let bad : Less ≡ Equal = h in cc)
both_equal Equal p h = (refl, h)
both_equal Greater p h = absurd (let bad : Greater ≡ Equal = h in cc)

numbers_equal : (m n : ℕ) → nat_cmp m n ≡ Equal → m ≡ n
numbers_equal m n h = grind (arith, nat_tests)

pub neither_before : (f g : Fault) → comes_before f g ≡ false → comes_before g f ≡ false → (f.at ≡ g.at) × (number_of f.reason ≡ number_of g.reason)
neither_before f g h k =
    let equal : fault_cmp f g ≡ Equal = equal_by (fault_cmp f g) (fault_cmp g f) (faults_total.antisymm f g) h k in
    let behind = (both_equal (nat_cmp (phase_of f.reason) (phase_of g.reason)) (ordering_then (nat_cmp f.at g.at) (nat_cmp (number_of f.reason) (number_of g.reason))) equal).1 in
    let inner = both_equal (nat_cmp f.at g.at) (nat_cmp (number_of f.reason) (number_of g.reason)) behind in
    (numbers_equal f.at g.at inner.0, numbers_equal (number_of f.reason) (number_of g.reason) inner.1)
