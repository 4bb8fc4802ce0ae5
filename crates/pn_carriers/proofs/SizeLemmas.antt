-- Sizes that are capped.
use Rattle.std.proofs.Common.{◌≡◌, ℕ, zero, suc, ◌+◌, ◌*◌, ◌^◌, ◌<◌, ◌≤◌, min, Bool, true, false, ◌&&◌, List, ◌∷◌, map, length, drop, get_or, Some, None, cond, ℤ, pos, ◌+ℤ◌, refl, sym, ap, ◌∙◌, arith}
use Rattle.std.specs.List.{list_all}
use Rattle.std.proofs.lemmas.List.{length-map}
use Rattle.std.proofs.lemmas.List.FromFn.{length-range_with_len}
use Rattle.pn_values.specs.declared.sort.Sort.{Sort}
use Rattle.pn_values.specs.declared.sort.Sort.TheVariants as sorts
use Rattle.pn_values.specs.declared.sort.Size.TheVariants as sizes
use Rattle.pn_values.specs.declared.value.Value.TheVariants as values
use Rattle.pn_carriers.specs.Carriers.{is_finite, constants, count_between, numbers_between, choices, carrier}
use Rattle.pn_carriers.specs.Sizes.{size_of, size_of_product, capped_size}
use Rattle.pn_carriers.proofs.NumberLemmas.{by_le}
use Rattle.pn_facts.proofs.Lists.{drop_next}
use Rattle.pn_carriers.proofs.ChoiceLemmas.{length_choices}
use Rattle.pn_carriers.proofs.LayerLemmas.{carrier-product, finite-product}

factor_capped : (most a b : ℕ) → most ≤ a → min (min a most * suc b) most ≡ min (a * suc b) most
factor_capped most a b h =
    let is : min a most ≡ most = omega arith in
    let same : min (most * suc b) most ≡ min (a * suc b) most = omega arith in
    ap (λ x. min (x * suc b) most) is ∙ same

-- a capped factor makes no difference to a capped product
capped_factor : (most a b : ℕ) → min (min a most * b) most ≡ min (a * b) most
capped_factor most a zero = omega arith
capped_factor most a (suc b) =
    by_le a most
    (λ (w : a ≤ most). let is : min a most ≡ a = omega arith in ap (λ x. min (x * suc b) most) is)
    (λ (w : most < a). factor_capped most a b (omega arith))

pub length_constants : (width : ℕ) → length (constants width) ≡ width
length_constants width = length-map _ values.Const ∙ length-range_with_len 0 width

pub length_numbers : (start end : ℤ) → length (numbers_between start end) ≡ count_between start end
length_numbers start end = length-map _ (λ k. values.Int (start +ℤ pos k)) ∙ length-range_with_len 0 (count_between start end)

-- the size of a finite sort, and of one that is not
pub finite_size_is : (widths : List ℕ) (sort : Sort) (n : ℕ) → is_finite sort ≡ true → length (carrier widths sort) ≡ n → n ≤ 2 ^ 64 → sizes.Finite n ≡ capped_size (size_of widths sort)
finite_size_is widths sort n finite count few =
    let most : n ≡ min (length (carrier widths sort)) (2 ^ 64) = omega arith in
    ap sizes.Finite most ∙ ap (λ f. capped_size (cond f (Some (length (carrier widths sort))) None)) (sym finite)

pub product_size_is : (widths : List ℕ) (parts : List Sort) → size_of_product widths parts ≡ size_of widths (sorts.Product parts)
product_size_is widths parts =
    let count : length (carrier widths (sorts.Product parts)) ≡ length (choices (map (carrier widths) parts)) =
    ap length (carrier-product widths parts) ∙ length-map (choices (map (carrier widths) parts)) values.Tuple in
    ap (λ f. cond f (Some (length (choices (map (carrier widths) parts)))) None) (sym (finite-product parts)) ∙ ap (λ n. cond (is_finite (sorts.Product parts)) (Some n) None) (sym count)

told : (widths : List ℕ) (sort : Sort) (n m : ℕ) (finite : Bool) → sizes.Finite n ≡ capped_size (cond finite (Some m) None) → (finite ≡ true) × (n ≡ min m (2 ^ 64))
told widths sort n m true h = (refl, cc)
told widths sort n m false h = absurd cc

-- what a size tells of a sort
finite_told : (widths : List ℕ) (sort : Sort) (n : ℕ) → sizes.Finite n ≡ capped_size (size_of widths sort) → (is_finite sort ≡ true) × (n ≡ min (length (carrier widths sort)) (2 ^ 64))
finite_told widths sort n h = told widths sort n (length (carrier widths sort)) (is_finite sort) h

-- one more factor, where the factors so far and the one to come are capped
next_factor : (most total now here rest all : ℕ) → now ≡ min (total * min here most) most → min (total * (here * rest)) most ≡ all → min (now * rest) most ≡ all
next_factor most total now here rest all is whole =
    let a : total * min here most * rest ≡ min here most * (total * rest) = omega arith in
    let b : here * (total * rest) ≡ total * (here * rest) = omega arith in
    ap (λ x. min (x * rest) most) is ∙ capped_factor most (total * min here most) rest ∙ ap (λ x. min x most) a ∙ capped_factor most here (total * rest) ∙ ap (λ x. min x most) b ∙ whole

-- the step of the loop over the parts of a product
pub next_part : (widths : List ℕ) (parts : List Sort) (i : ℕ) (part : Sort) (total now count all : ℕ) (whole : Bool)
    → i < length parts → part ≡ get_or parts i part → sizes.Finite count ≡ capped_size (size_of widths part) → now ≡ min (total * count) (2 ^ 64)
    → list_all is_finite (drop i parts) ≡ whole → min (total * length (choices (map (carrier widths) (drop i parts)))) (2 ^ 64) ≡ all
    → (list_all is_finite (drop (i + 1) parts) ≡ whole) × (min (now * length (choices (map (carrier widths) (drop (i + 1) parts)))) (2 ^ 64) ≡ all)
next_part widths parts i part total now count all whole lt is told now_is finite product =
    let split : drop i parts ≡ part ∷ drop (i + 1) parts = drop_next parts i part lt is in
    let here = finite_told widths part count told in
    let rest = choices (map (carrier widths) (drop (i + 1) parts)) in
    let product_split : min (total * (length (carrier widths part) * length rest)) (2 ^ 64) ≡ all =
    ap (λ n. min (total * n) (2 ^ 64)) (sym (length_choices (carrier widths part) (map (carrier widths) (drop (i + 1) parts))))
    ∙ ap (λ ps. min (total * length (choices (map (carrier widths) ps))) (2 ^ 64)) (sym split) ∙ product in (
      ap (λ b. b && list_all is_finite (drop (i + 1) parts)) (sym here.0) ∙ ap (list_all is_finite) (sym split) ∙ finite,
      next_factor (2 ^ 64) total now (length (carrier widths part)) (length rest) all (now_is ∙ ap (λ n. min (total * n) (2 ^ 64)) here.1) product_split,
    )
