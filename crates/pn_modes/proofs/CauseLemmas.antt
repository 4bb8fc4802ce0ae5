-- Why the modes of a transition are not searched or not listed.
use Rattle.std.proofs.Common.{◌≡◌, ◌⊎◌, inl, inr, ℕ, zero, suc, ◌+◌, ◌*◌, ◌<◌, ◌≤◌, ◌^◌, min, Bool, true, false, not, cond, List, [], ◌∷◌, map, length, drop, Option, None, Some, refl, sym, ap, ◌∙◌, subst, arith, nat_lt, ◌&&◌}
use Rattle.std.specs.List.{AllZip, Contains, list_all, slice_get}
use Rattle.std.proofs.lemmas.Bool.Decides.{nat_tests}
use Rattle.std.proofs.lemmas.Slice.Zip.{AllZip-long}
use Rattle.pn_carriers.specs.Carriers.{carrier, choices, is_finite}
use Rattle.pn_carriers.specs.Sizes.{capped_size, size_of, size_of_product}
use Rattle.pn_carriers.proofs.ChoiceLemmas.{length_choices}
use Rattle.pn_facts.proofs.Contained.{contains_cases, contains_first, contains_next, contains_nil}
use Rattle.pn_facts.proofs.Truths.{and_both}
use Rattle.pn_marking.proofs.OnceLemmas.{variables_once}
use Rattle.pn_names.specs.Names.{widths_of}
use Rattle.pn_net.specs.declared.flat.Flat.{Flat}
use Rattle.pn_sorts.specs.Lookups.{IsVariableSort}
use Rattle.pn_terms.proofs.SortLemmas.{variable_once}
use Rattle.pn_values.specs.declared.sort.Size.{Size}
use Rattle.pn_values.specs.declared.sort.Size.TheVariants as sizes
use Rattle.pn_values.specs.declared.sort.Sort.{Sort}
use Rattle.pn_values.specs.declared.value.Value.{Value}
use Rattle.pn_net.specs.Typed.{AreVariablesAt}
use Rattle.pn_modes.specs.Causes.{HasAssignments, HasFewAssignments, HasManyAssignments, IsFirstInfinite, first_with, is_infinite}
use Rattle.pn_modes.specs.Parts.{AreSearchable}
use Rattle.pn_modes.specs.Sizes.{HaveSortsAt, are_many, is_large, most_values}

-- ---- the first of some variables

-- as many sorts as variables
pub as_many_sorts : (f : Flat) (t : ℕ) (vars : List ℕ) (sorts : List Sort) → HaveSortsAt f t vars sorts → length vars ≡ length sorts
as_many_sorts f t vars sorts have = sym (AllZip-long (IsVariableSort f.declarations) vars sorts have.are_sorts)

module _ (test : Sort → Bool) where
  -- one that does not pass is left behind
  pub first_behind : (i : ℕ) (vars : List ℕ) (sorts : List Sort) (s : Sort) → i < length vars → slice_get sorts i ≡ Some s → test s ≡ false
      → first_with test (drop i vars) (drop i sorts) ≡ first_with test (drop (suc i) vars) (drop (suc i) sorts)
  first_behind i [] sorts s lt is fails = absurd (omega (arith, lt))
  first_behind i (v ∷ vars) [] s lt is fails = absurd cc
  first_behind zero (v ∷ vars) (sort ∷ sorts) s lt is fails =
      let same : sort ≡ s = cc in
      ap (λ b. cond b (Some v) (first_with test vars sorts)) (ap test same ∙ fails)
  first_behind (suc i) (v ∷ vars) (sort ∷ sorts) s lt is fails = first_behind i vars sorts s (omega (arith, lt)) is fails

  without_sorts : (vars : List ℕ) → first_with test vars [] ≡ None
  without_sorts [] = refl
  without_sorts (v ∷ vars) = refl

  -- behind the last there is none
  pub none_behind : (i : ℕ) (vars : List ℕ) (sorts : List Sort) → length vars ≤ i → first_with test (drop i vars) (drop i sorts) ≡ None
  none_behind zero [] sorts le = refl
  none_behind (suc i) [] sorts le = refl
  none_behind zero (v ∷ vars) sorts le = absurd (omega (arith, le))
  none_behind (suc i) (v ∷ vars) [] le = without_sorts (drop i vars)
  none_behind (suc i) (v ∷ vars) (sort ∷ sorts) le = none_behind i vars sorts (omega (arith, le))

  -- where none is first, none passes
  pub none_passes : (vars : List ℕ) (sorts : List Sort) → length vars ≡ length sorts → first_with test vars sorts ≡ None → (s : Sort) → Contains sorts s → test s ≡ false
  none_passes vars [] long none s has = absurd (contains_nil s has)
  none_passes [] (sort ∷ sorts) long none s has = absurd (omega (arith, long))
  none_passes (v ∷ vars) (sort ∷ sorts) long none s has = step (test sort) refl none (λ later there. none_passes vars sorts (omega (arith, long)) later s there) (contains_cases sort sorts s has)
    where
      step : (b : Bool) → test sort ≡ b → cond b (Some v) (first_with test vars sorts) ≡ None → (first_with test vars sorts ≡ None → Contains sorts s → test s ≡ false) → (sort ≡ s) ⊎ Contains sorts s → test s ≡ false
      step true is bad rest either = absurd cc
      step false is later rest (inl same) = ap test (sym same) ∙ is
      step false is later rest (inr there) = rest later there

-- the sorts of some variables are one list
pub sorts_once : (f : Flat) (t : ℕ) (vars : List ℕ) (sorts others : List Sort) → HaveSortsAt f t vars sorts → HaveSortsAt f t vars others → sorts ≡ others
sorts_once f t vars sorts others have also = same vars sorts others have.are_sorts also.are_sorts
  where
    same : (vars : List ℕ) (sorts others : List Sort) → AllZip (IsVariableSort f.declarations) vars sorts → AllZip (IsVariableSort f.declarations) vars others → sorts ≡ others
    same [] [] [] all each = refl
    same [] [] (o ∷ os) all each = absurd each
    same [] (s ∷ ss) os all each = absurd all
    same (v ∷ vs) [] os all each = absurd all
    same (v ∷ vs) (s ∷ ss) [] all each = absurd each
    same (v ∷ vs) (s ∷ ss) (o ∷ os) all each =
        let first : s ≡ o = variable_once f.declarations v s o all.0 each.0 in
        let rest : ss ≡ os = same vs ss os all.1 each.1 in
        λ i. first i ∷ rest i

-- ---- sizes

few : (n : ℕ) → nat_lt most_values n ≡ false → n < 2 ^ 64
few n h = let le : n ≤ 16777216 = grind (arith, nat_tests, h) in omega (arith, le)

-- a sort that is not too large is finite and small enough
pub small_sort : (widths : List ℕ) (s : Sort) → is_large widths s ≡ false → (is_finite s ≡ true) × (length (carrier widths s) < 2 ^ 64)
small_sort widths s small = step (is_finite s) refl small
  where
    step : (b : Bool) → is_finite s ≡ b → are_many (cond b (Some (length (carrier widths s))) None) ≡ false → (is_finite s ≡ true) × (length (carrier widths s) < 2 ^ 64)
    step true is small = (is, few (length (carrier widths s)) small)
    step false is bad = absurd cc

pub searchable : (f : Flat) (t : ℕ) (vars : List ℕ) (sorts : List Sort) → HaveSortsAt f t vars sorts → first_with (is_large (widths_of f.declarations)) vars sorts ≡ None → AreSearchable f sorts
searchable f t vars sorts have none s has =
    small_sort (widths_of f.declarations) s (none_passes (is_large (widths_of f.declarations)) vars sorts (as_many_sorts f t vars sorts have) none s has)

-- ---- products

-- where there is a product, all are finite, and it is the number of choices
pub product_of : (widths : List ℕ) (sorts : List Sort) (n : ℕ) → size_of_product widths sorts ≡ Some n → (list_all is_finite sorts ≡ true) × (length (choices (map (carrier widths) sorts)) ≡ n)
product_of widths sorts n is = step (list_all is_finite sorts) refl is
  where
    step : (b : Bool) → list_all is_finite sorts ≡ b → cond b (Some (length (choices (map (carrier widths) sorts)))) None ≡ Some n → (list_all is_finite sorts ≡ true) × (length (choices (map (carrier widths) sorts)) ≡ n)
    step true all same = (all, cc)
    step false all bad = absurd cc

pub each_finite : (sorts : List Sort) → list_all is_finite sorts ≡ true → (s : Sort) → Contains sorts s → is_finite s ≡ true
each_finite [] all s has = absurd (contains_nil s has)
each_finite (sort ∷ sorts) all s has = step (is_finite sort) refl all (λ more there. each_finite sorts more s there) (contains_cases sort sorts s has)
  where
    step : (b : Bool) → is_finite sort ≡ b → (b && list_all is_finite sorts) ≡ true → (list_all is_finite sorts ≡ true → Contains sorts s → is_finite s ≡ true) → (sort ≡ s) ⊎ Contains sorts s → is_finite s ≡ true
    step true is all rest (inl same) = ap is_finite (sym same) ∙ is
    step true is all rest (inr there) = rest all there
    step false is bad rest either = absurd cc

all_finite : (sorts : List Sort) → ((s : Sort) → Contains sorts s → is_finite s ≡ true) → list_all is_finite sorts ≡ true
all_finite [] each = refl
all_finite (s ∷ sorts) each = and_both (is_finite s) (list_all is_finite sorts) (each s (contains_first s sorts)) (all_finite sorts (λ x has. each x (contains_next s sorts x has)))

finite_else : (b : Bool) → not b ≡ false → b ≡ true
finite_else true h = refl
finite_else false h = absurd cc

-- where no sort is infinite, there is a product
pub product_there : (widths : List ℕ) (vars : List ℕ) (sorts : List Sort) → length vars ≡ length sorts → first_with is_infinite vars sorts ≡ None
    → size_of_product widths sorts ≡ Some (length (choices (map (carrier widths) sorts)))
product_there widths vars sorts long none =
    ap (λ b. cond b (Some (length (choices (map (carrier widths) sorts)))) None) (all_finite sorts (λ s has. finite_else (is_finite s) (none_passes is_infinite vars sorts long none s has)))

factors : (a b : ℕ) → 0 < a * b → (a ≤ a * b) × (b ≤ a * b) × (0 < b)
factors zero b h = absurd (omega (arith, h))
factors (suc a) zero h = absurd (omega (arith, h))
factors (suc a) (suc b) h = (omega arith, omega arith, omega arith)

at_most : (A B : Type 0) (n whole own rest : ℕ) → whole ≡ own * rest → own ≤ own * rest → rest ≤ own * rest → (A → own ≡ n) → (B → n ≤ rest) → A ⊎ B → n ≤ whole
at_most A B n whole own rest split le most one more (inl a) = let at = one a in omega (arith, split, le, at)
at_most A B n whole own rest split le most one more (inr b) = let at = more b in omega (arith, split, most, at)

-- none of the factors of a product that is not 0 is greater
factor : (widths : List ℕ) (sorts : List Sort) (s : Sort) → Contains sorts s → 0 < length (choices (map (carrier widths) sorts)) → length (carrier widths s) ≤ length (choices (map (carrier widths) sorts))
factor widths [] s has some = absurd (contains_nil s has)
factor widths (sort ∷ sorts) s has some =
    let more = map (carrier widths) sorts in
    let split = length_choices (carrier widths sort) more in
    let parts = factors (length (carrier widths sort)) (length (choices more)) (omega (arith, some, split)) in
    at_most (sort ≡ s) (Contains sorts s) (length (carrier widths s)) (length (choices (map (carrier widths) (sort ∷ sorts)))) (length (carrier widths sort)) (length (choices more)) split parts.0 parts.1
    (λ same. ap (λ x. length (carrier widths x)) same) (λ there. factor widths sorts s there parts.2) (contains_cases sort sorts s has)

-- so their size is told as a number
pub told_size : (widths : List ℕ) (vars : List ℕ) (sorts : List Sort) (size : Size) → length vars ≡ length sorts → first_with is_infinite vars sorts ≡ None
    → size ≡ capped_size (size_of_product widths sorts) → (n : ℕ) × (size ≡ capped_size (Some n))
told_size widths vars sorts size long none is = (length (choices (map (carrier widths) sorts)), is ∙ ap capped_size (product_there widths vars sorts long none))

abbrev number_in : Size → ℕ
number_in (sizes.Finite n) = n
number_in sizes.Infinite = 0

-- a number of assignments that is told, and not capped, is all of them
pub told_few : (widths : List ℕ) (vars : List ℕ) (sorts : List Sort) (size : Size) (told : ℕ) → length vars ≡ length sorts → first_with is_infinite vars sorts ≡ None
    → size ≡ capped_size (size_of_product widths sorts) → size ≡ sizes.Finite told → told ≤ 16777216 → size_of_product widths sorts ≡ Some told
told_few widths vars sorts size told long none is tells le =
    let n = length (choices (map (carrier widths) sorts)) in
    let there = product_there widths vars sorts long none in
    let capped : told ≡ min n (2 ^ 64) = ap number_in (sym tells ∙ is ∙ ap capped_size there) in
    there ∙ ap Some (whole n capped)
  where
    whole : (n : ℕ) → told ≡ min n (2 ^ 64) → n ≡ told
    whole n capped = grind (arith, nat_tests, capped, le)

-- a number of assignments that passes those that are listed
pub told_many : (widths : List ℕ) (vars : List ℕ) (sorts : List Sort) (size : Size) (told : ℕ) → length vars ≡ length sorts → first_with is_infinite vars sorts ≡ None
    → size ≡ capped_size (size_of_product widths sorts) → size ≡ sizes.Finite told → 16777216 < told → (n : ℕ) × (size_of_product widths sorts ≡ Some n) × (16777216 < n) × (told ≡ min n (2 ^ 64))
told_many widths vars sorts size told long none is tells more =
    let n = length (choices (map (carrier widths) sorts)) in
    let there = product_there widths vars sorts long none in
    let capped : told ≡ min n (2 ^ 64) = ap number_in (sym tells ∙ is ∙ ap capped_size there) in
    (n, there, greater n capped, capped)
  where
    greater : (n : ℕ) → told ≡ min n (2 ^ 64) → 16777216 < n
    greater n capped = grind (arith, nat_tests, capped, more)

-- the sorts of some assignments, but not more than are listed, can be searched
pub listable : (f : Flat) (sorts : List Sort) (n : ℕ) → size_of_product (widths_of f.declarations) sorts ≡ Some n → 0 < n → n ≤ 16777216 → AreSearchable f sorts
listable f sorts n is some le s has =
    let p = product_of (widths_of f.declarations) sorts n is in
    let size = p.1 in
    let at_most = factor (widths_of f.declarations) sorts s has (omega (arith, some, size)) in
    (each_finite sorts p.0 s has, omega (arith, at_most, size, le))

-- other sorts of the same variables are the same sorts
pub listable_again : (f : Flat) (t : ℕ) (sorts : List Sort) (n : ℕ) → HasAssignments f t n → (n ≡ 0 → ⊥) → n ≤ 16777216 → ((vars : List ℕ) → AreVariablesAt f t vars → HaveSortsAt f t vars sorts)
    → ((vars : List ℕ) × HaveSortsAt f t vars sorts) × AreSearchable f sorts
listable_again f t sorts n (vars, others, have, is) some le each =
    let own = each vars have.variables in
    let same = sorts_once f t vars others sorts have own in
    ((vars, own), listable f sorts n (subst (λ ss. size_of_product (widths_of f.declarations) ss ≡ Some n) same is) (positive n some) le)
  where
    positive : (n : ℕ) → (n ≡ 0 → ⊥) → 0 < n
    positive zero some = absurd (some refl)
    positive (suc n) some = omega arith

-- ---- one cause

-- what is said of the one list of sorts is one
module _ {A : Type 0} (f : Flat) (t : ℕ) (tells : List ℕ → List Sort → A) where
  abbrev Tells : A → Type 0
  Tells a = (vars : List ℕ) × (sorts : List Sort) × HaveSortsAt f t vars sorts × (tells vars sorts ≡ a)

  pub told_once : (a b : A) → Tells a → Tells b → a ≡ b
  told_once a b (vars, sorts, have, is) (others, more, also, other) =
      let same : others ≡ vars = variables_once f t others vars also.variables have.variables in
      let own : HaveSortsAt f t vars more = subst (λ vs. HaveSortsAt f t vs more) same also in
      sym is ∙ ap (tells vars) (sorts_once f t vars sorts more have own) ∙ ap (λ vs. tells vs more) (sym same) ∙ other

pub one_product : (f : Flat) (t n m : ℕ) → HasAssignments f t n → HasAssignments f t m → n ≡ m
one_product f t n m one two = let same : Some n ≡ Some m = told_once f t (λ vars sorts. size_of_product (widths_of f.declarations) sorts) (Some n) (Some m) one two in cc

first_passes : (test : Sort → Bool) (vars : List ℕ) (sorts : List Sort) (v : ℕ) → first_with test vars sorts ≡ Some v → (s : Sort) × Contains sorts s × (test s ≡ true)
first_passes test [] sorts v is = absurd cc
first_passes test (w ∷ vars) [] v is = absurd cc
first_passes test (w ∷ vars) (sort ∷ sorts) v is = step (test sort) refl is (λ later. first_passes test vars sorts v later)
  where
    step : (b : Bool) → test sort ≡ b → cond b (Some w) (first_with test vars sorts) ≡ Some v → (first_with test vars sorts ≡ Some v → (s : Sort) × Contains sorts s × (test s ≡ true))
        → (s : Sort) × Contains (sort ∷ sorts) s × (test s ≡ true)
    step true passes is rest = (sort, contains_first sort sorts, passes)
    step false passes later rest = let found = rest later in (found.0, contains_next sort sorts found.0 found.1, found.2)

infinite_else : (b : Bool) → not b ≡ true → b ≡ true → ⊥
infinite_else true h is = absurd cc
infinite_else false h is = absurd cc

pub finite_product : (f : Flat) (t n v : ℕ) → HasAssignments f t n → IsFirstInfinite f t (Some v) → ⊥
finite_product f t n v (vars, sorts, have, is) (others, more, also, first) =
    let same : others ≡ vars = variables_once f t others vars also.variables have.variables in
    let sort_same : more ≡ sorts = sorts_once f t vars more sorts (subst (λ vs. HaveSortsAt f t vs more) same also) have in
    let found = first_passes is_infinite others more v first in
    infinite_else (is_finite found.0) found.2 (each_finite sorts (product_of (widths_of f.declarations) sorts n is).0 found.0 (subst (λ ss. Contains ss found.0) sort_same found.1))

pub one_told : (f : Flat) (t n m : ℕ) → HasManyAssignments f t n → HasManyAssignments f t m → n ≡ m
one_told f t n m (one, is, most, told) (two, also, other, tells) = told ∙ ap (λ k. min k (2 ^ 64)) (one_product f t one two is also) ∙ sym tells

pub few_or_many : (f : Flat) (t n : ℕ) → HasFewAssignments f t → HasManyAssignments f t n → ⊥
few_or_many f t n (one, is, most) (two, also, more, tells) = let same = one_product f t one two is also in absurd (omega (arith, same, most, more))
