-- Parts of the walk, one after another.
use Rattle.std.proofs.Common.{◌≡◌, ℕ, ◌+◌, List, [], ◌++◌, drop, Option, Some, sym, ap, subst, ◌∙◌}
use Rattle.std.specs.List.{flat_map, slice_get}
use Rattle.pn_facts.proofs.Lists.{drop_got}
use Rattle.pn_faults.specs.declared.fault.Fault.{Fault}
use Rattle.pn_faults.specs.declared.reason.Reason.{Reason}
use Rattle.pn_faults.specs.Least.{lower, least_fault}
use Rattle.pn_faults.proofs.LeastLemmas.{lower-assoc, lower-none, least_fault-append}
use Rattle.pn_shape.specs.Faults.{told}
use Rattle.pn_shape_faults.specs.Keeping.{KeepsLower, Goes}

pub keeps_nothing : (a : Option Fault) → KeepsLower a a []
keeps_nothing a = sym (lower-none a)

pub keeps_as : (a b : Option Fault) (xs ys : List Fault) → xs ≡ ys → KeepsLower a b xs → KeepsLower a b ys
keeps_as a b xs ys is k = subst (KeepsLower a b) is k

pub keeps_told : (a b : Option Fault) (at at2 : ℕ) (d d2 : List ℕ) (r r2 : Option Reason) → at ≡ at2 → d ≡ d2 → r ≡ r2 → KeepsLower a b (told at d r) → KeepsLower a b (told at2 d2 r2)
keeps_told a b at at2 d d2 r r2 same_at same_d same_r k =
    keeps_as a b (told at d r) (told at2 d2 r2) (ap (λ n. told n d r) same_at ∙ (ap (λ x. told at2 x r) same_d ∙ ap (told at2 d2) same_r)) k

pub keeps_then : (a b c : Option Fault) (xs ys : List Fault) → KeepsLower a b xs → KeepsLower b c ys → KeepsLower a c (xs ++ ys)
keeps_then a b c xs ys k l =
    l ∙ (ap (λ o. lower o (least_fault ys)) k ∙ (lower-assoc a (least_fault xs) (least_fault ys) ∙ ap (lower a) (sym (least_fault-append xs ys))))

pub goes_next : (old new next : Option Fault) (all xs rest : List Fault) → Goes old new all (xs ++ rest) → KeepsLower new next xs → Goes old next all rest
goes_next old new next all xs rest g k =
    ap (λ o. lower o (least_fault rest)) k ∙ (lower-assoc new (least_fault xs) (least_fault rest) ∙ (ap (lower new) (sym (least_fault-append xs rest)) ∙ g))

pub goes_at : (old new : Option Fault) (all xs rest : List Fault) → Goes old new all xs → xs ≡ rest → Goes old new all rest
goes_at old new all xs rest g is = subst (Goes old new all) is g

pub flat_next : {X : Type 0} (f : X → List Fault) (xs : List X) (i : ℕ) (x : X) (old new next : Option Fault) (all : List Fault) → slice_get xs i ≡ Some x
    → Goes old new all (flat_map f (drop i xs)) → KeepsLower new next (f x) → Goes old next all (flat_map f (drop (i + 1) xs))
flat_next f xs i x old new next all is g k =
    goes_next old new next all (f x) (flat_map f (drop (i + 1) xs)) (goes_at old new all (flat_map f (drop i xs)) (f x ++ flat_map f (drop (i + 1) xs)) g (ap (flat_map f) (drop_got xs i x is))) k
