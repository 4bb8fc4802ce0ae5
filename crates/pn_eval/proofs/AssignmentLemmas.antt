-- The value of a variable is the one at its place.
use Rattle.std.proofs.Common.{◌≡◌, ◌≤◌, ◌<◌, ◌+◌, ◌-◌, ℕ, zero, suc, true, false, List, [], ◌∷◌, length, get_or, cond, eqb, Some, Result, Ok, Err, refl, sym, ap, ◌∙◌, subst, arith}
use Rattle.std.specs.List.{Contains}
use Rattle.std.specs.List.Sorted.{IsBinarySearchResult, IsStrictlyIncreasing}
use Rattle.std.specs.Ordering.{nat_cmp}
use Rattle.std.proofs.lemmas.List.{get_or_default}
use Rattle.std.proofs.lemmas.List.Sorted.{searched}
use Rattle.std.proofs.lemmas.Bool.Decides.{nat_tests}
use Rattle.pn_carriers.proofs.NumberLemmas.{by_le}
use Rattle.pn_values.specs.declared.value.Value.{Value}
use Rattle.pn_eval.specs.Assignments.{value_of_variable}

pub far : (xs : List ℕ) → IsStrictlyIncreasing xs → (i n j : ℕ) → j ≡ i + suc n → j < length xs → get_or xs i 0 < get_or xs j 0
far xs up i zero j is l =
    let next : i + 1 ≡ j = omega (arith, is) in
    subst (λ k. get_or xs i 0 < get_or xs k 0) next (up i (omega (arith, l, next)))
far xs up i (suc n) j is l =
    let before = far xs up i n (i + suc n) refl (omega (arith, l, is)) in
    let next : i + suc n + 1 ≡ j = omega (arith, is) in
    let after : get_or xs (i + suc n) 0 < get_or xs j 0 = subst (λ k. get_or xs (i + suc n) 0 < get_or xs k 0) next (up (i + suc n) (omega (arith, l, next))) in
    omega (arith, before, after)

pub rising : (xs : List ℕ) → IsStrictlyIncreasing xs → (i j : ℕ) → i ≤ j → j < length xs → get_or xs i 0 ≤ get_or xs j 0
rising xs up i j le l =
    by_le j i
    (λ (back : j ≤ i). let same : i ≡ j = omega (arith, le, back) in subst (λ k. get_or xs i 0 ≤ get_or xs k 0) same (omega arith))
    (λ (on : i < j). let less = far xs up i (j - (i + 1)) j (omega (arith, on)) l in omega (arith, less))

pub behind : (x : ℕ) (xs : List ℕ) → IsStrictlyIncreasing (x ∷ xs) → IsStrictlyIncreasing xs
behind x xs up k l =
    let next : suc k + 1 ≡ suc (k + 1) = omega arith in
    subst (λ m. get_or xs k 0 < get_or (x ∷ xs) m 0) next (up (suc k) (omega (arith, l)))

pub value_at : (vars : List ℕ) (values : List Value) (i v : ℕ) (d : Value) → IsStrictlyIncreasing vars → length values ≡ length vars → i < length vars → get_or vars i 0 ≡ v → value_of_variable vars values v ≡ Some (get_or values i d)
value_at [] values i v d up size lt is = absurd (omega (arith, lt))
value_at (x ∷ xs) [] i v d up size lt is = absurd (omega (arith, size))
value_at (x ∷ xs) (y ∷ ys) zero v d up size lt is =
    let same : eqb x v ≡ true = grind (arith, nat_tests) in
    ap (λ b. cond b (Some y) (value_of_variable xs ys v)) same
value_at (x ∷ xs) (y ∷ ys) (suc i) v d up size lt is =
    let above : x < v = subst (λ n. x < n) is (far (x ∷ xs) up 0 i (suc i) (omega arith) lt) in
    let differs : eqb x v ≡ false = grind (arith, nat_tests) in
    ap (λ b. cond b (Some y) (value_of_variable xs ys v)) differs ∙ value_at xs ys i v d (behind x xs up) (omega (arith, size)) (omega (arith, lt)) is

-- what a binary search for a variable finds, and that it finds one that is there
pub found : (vars : List ℕ) (values : List Value) (v i : ℕ) (d : Value) (r : Result ℕ ℕ) → r ≡ Ok i → IsStrictlyIncreasing vars → length values ≡ length vars → IsBinarySearchResult (λ y. nat_cmp y v) vars r → value_of_variable vars values v ≡ Some (get_or values i d)
found vars values v i d (Ok j) is up size position =
    let at = searched vars v (Ok j) position (rising vars up) in
    let same : j ≡ i = cc in
    value_at vars values i v d up size (subst (λ k. k < length vars) same at.0) (subst (λ k. get_or vars k 0 ≡ v) same at.1)
found vars values v i d (Err j) is up size position = absurd (let bad : Err j ≡ Ok i = is in cc)

pub missed : (vars : List ℕ) (v i : ℕ) (r : Result ℕ ℕ) → r ≡ Err i → IsStrictlyIncreasing vars → IsBinarySearchResult (λ y. nat_cmp y v) vars r → Contains vars v → ⊥
missed vars v i (Ok j) is up position known = absurd (let bad : Ok j ≡ Err i = is in cc)
missed vars v i (Err j) is up position (k, within, here) =
    let none = searched vars v (Err j) position (rising vars up) in
    let same : get_or vars k 0 ≡ v = get_or_default vars k 0 v within ∙ here in
    by_le j k
    (λ (le : j ≤ k). let above = none.2 k le within in omega (arith, above, same))
    (λ (lt : k < j). let below = none.1 k lt in omega (arith, below, same))
