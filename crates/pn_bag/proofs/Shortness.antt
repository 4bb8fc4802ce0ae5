-- Only one entry is the first of which there are too few.
use Rattle.std.proofs.Common.{◌≡◌, ℕ, zero, suc, ◌<◌, ◌≤◌, List, [], ◌∷◌, Some, slice_get, take, refl, sym, ap, ◌∙◌, arith}
use Rattle.std.specs.declared.cmp.Ordering.{Ordering}
use Rattle.pn_bag.specs.Counts.{count_of, Every}
use Rattle.pn_bag.specs.Short.{IsFirstShort}
use Rattle.pn_bag.specs.declared.faults.Short.{Short}

-- a test of each entry that fails at one place, and at none before it
one_place : {K : Type 0} (count : K → ℕ) (needs : List (K × ℕ)) (p q : ℕ) (x y : K × ℕ) → slice_get needs p ≡ Some x → slice_get needs q ≡ Some y → count x.0 < x.1 → count y.0 < y.1 → Every (λ e. e.1 ≤ count e.0) (take p needs) → Every (λ e. e.1 ≤ count e.0) (take q needs) → (p ≡ q) × (x ≡ y)
one_place count [] p q x y at_p at_q few_x few_y before_p before_q = absurd cc
one_place count (e ∷ es) zero zero x y at_p at_q few_x few_y before_p before_q = (refl, cc)
one_place count (e ∷ es) zero (suc q) x y at_p at_q few_x few_y before_p before_q =
    let same : e ≡ x = cc in
    absurd (omega (arith, few_x, before_q.0, ap (λ z. z.1) same, ap (λ z. count z.0) same))
one_place count (e ∷ es) (suc p) zero x y at_p at_q few_x few_y before_p before_q =
    let same : e ≡ y = cc in
    absurd (omega (arith, few_y, before_p.0, ap (λ z. z.1) same, ap (λ z. count z.0) same))
one_place count (e ∷ es) (suc p) (suc q) x y at_p at_q few_x few_y before_p before_q =
    let rest = one_place count es p q x y at_p at_q few_x few_y before_p.1 before_q.1 in
    (ap suc rest.0, rest.1)

pub one_first_short : {K : Type 0} (cmp : K → K → Ordering) (has needs : List (K × ℕ)) (one other : Short) → IsFirstShort cmp has needs one → IsFirstShort cmp has needs other → one ≡ other
one_first_short {K} cmp has needs one other first second =
    let x : K × ℕ = (first.entry.0, one.need) in
    let y : K × ℕ = (second.entry.0, other.need) in
    let few_x : count_of cmp has x.0 < x.1 = omega (arith, first.fewer, first.entry.2) in
    let few_y : count_of cmp has y.0 < y.1 = omega (arith, second.fewer, second.entry.2) in
    let place = one_place (count_of cmp has) needs one.position other.position x y first.entry.1 second.entry.1 few_x few_y first.first second.first in
    let make : ℕ → ℕ → ℕ → Short = λ p n h. record { position = p; need = n; has = h } in
    let has_same : one.has ≡ other.has = first.entry.2 ∙ ap (λ z. count_of cmp has z.0) place.1 ∙ sym second.entry.2 in
    ap (λ p. make p one.need one.has) place.0 ∙ ap (λ z. make other.position z.1 one.has) place.1 ∙ ap (λ h. make other.position other.need h) has_same
