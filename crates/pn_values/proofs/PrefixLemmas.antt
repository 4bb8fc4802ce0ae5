-- Lists compared part by part, where one of them ends.
use Rattle.std.proofs.Common.{◌≡◌, ℕ, ◌<◌, ◌≤◌, List, [], ◌∷◌, length, drop, ap, ◌∙◌, arith}
use Rattle.std.proofs.lemmas.List.{length-drop, drop_all}
use Rattle.std.specs.Cmp.Lexicographic.{slice_cmp}
use Rattle.std.specs.declared.cmp.Ordering.{Ordering}
use Rattle.std.specs.declared.cmp.Ordering.TheVariants.{Less, Equal, Greater}

module _ {A : Type 0} (R : A → A → Ordering) where
  first_goes_on : (xs ys : List A) → 0 < length xs → ys ≡ [] → slice_cmp R xs ys ≡ Greater
  first_goes_on [] ys more ends = absurd (omega arith)
  first_goes_on (x ∷ xs) ys more ends = ap (slice_cmp R (x ∷ xs)) ends

  second_goes_on : (xs ys : List A) → xs ≡ [] → 0 < length ys → slice_cmp R xs ys ≡ Less
  second_goes_on xs [] ends more = absurd (omega arith)
  second_goes_on xs (y ∷ ys) ends more = ap (λ zs. slice_cmp R zs (y ∷ ys)) ends

  pub second_ends : (xs ys : List A) (i : ℕ) → i < length xs → length ys ≤ i → slice_cmp R (drop i xs) (drop i ys) ≡ Greater
  second_ends xs ys i more ends = first_goes_on (drop i xs) (drop i ys) (omega (arith, length-drop i xs)) (drop_all i ys ends)

  pub first_ends : (xs ys : List A) (i : ℕ) → length xs ≤ i → i < length ys → slice_cmp R (drop i xs) (drop i ys) ≡ Less
  first_ends xs ys i ends more = second_goes_on (drop i xs) (drop i ys) (drop_all i xs ends) (omega (arith, length-drop i ys))

  pub both_end : (xs ys : List A) (i : ℕ) → length xs ≤ i → length ys ≤ i → slice_cmp R (drop i xs) (drop i ys) ≡ Equal
  both_end xs ys i first second = ap (λ zs. slice_cmp R zs (drop i ys)) (drop_all i xs first) ∙ ap (slice_cmp R []) (drop_all i ys second)
