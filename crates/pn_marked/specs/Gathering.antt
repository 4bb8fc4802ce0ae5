-- The terms of the values on each place, while they are gathered.
use Rattle.std.specs.Prelude.{◌≡◌, ◌≤◌, ℕ, List, [], ◌∷◌, ◌++◌, length, map, Some, None}
use Rattle.std.specs.List.{slice_get}
use Rattle.std.specs.Option.{option_map}
use Rattle.pn_objects.specs.declared.object.Place.{Place}
use Rattle.pn_bag.specs.Counts.{count_of}
use Rattle.pn_checks.specs.Initial.{token}
use Rattle.pn_net.specs.Orders.{token_cmp}
use Rattle.pn_net.specs.Labels.{IsPlaceSort}
use Rattle.pn_net.specs.Typed.{IsSortOfPlace}
use Rattle.pn_net.specs.declared.flat.Flat.{Flat}
use Rattle.pn_net.specs.declared.token.Token.{Token}
use Rattle.pn_syntax.specs.declared.declaration.Declaration.{Declaration}
use Rattle.pn_syntax.specs.declared.term.Term.{Term}
use Rattle.pn_values.specs.declared.sort.Sort.{Sort}
use Rattle.pn_values.specs.declared.value.Value.TheVariants as values
use Rattle.pn_marked.specs.Marked.{label_of, number_label, so_often, sum_term, values_on}

-- with the terms of the tokens that are left, the terms on each place are those of the marking
pub record AreTermsBefore (f : Flat) (m left : List (Token × ℕ)) (terms : List (List Term)) : Type 0 where
  pub size : length terms ≡ length f.places
  pub each : (i : ℕ) (es : List Term) (sort : Sort) → slice_get terms i ≡ Some es → IsSortOfPlace f i sort → es ++ map (so_often f.declarations sort) (values_on left i) ≡ map (so_often f.declarations sort) (values_on m i)

-- the terms on each place are those of the marking
abbrev pub AreTermsOn : Flat → List (Token × ℕ) → List (List Term) → Type 0
AreTermsOn f m terms = AreTermsBefore f m [] terms

-- the term stands behind those that were on the place, and nothing else changed
pub record IsGrownAt (place : ℕ) (term : Term) (old new : List (List Term)) : Type 0 where
  pub size : length new ≡ length old
  pub here : (es : List Term) → slice_get new place ≡ Some es → (before : List Term) × (slice_get old place ≡ Some before) × (es ≡ before ++ term ∷ [])
  pub others : (i : ℕ) → (i ≡ place → ⊥) → slice_get new i ≡ slice_get old i

-- so many of these are made, each right for its place
pub record AreMadeFor {A B : Type 0} (IsRight : ℕ → A → B → Type 0) (xs : List A) (ys : List B) (count : ℕ) : Type 0 where
  pub size : length ys ≡ count
  pub within : count ≤ length xs
  pub each : (i : ℕ) (x : A) (y : B) → slice_get xs i ≡ Some x → slice_get ys i ≡ Some y → IsRight i x y

-- the second is the first place, which has a sort, with the sum of the terms at its number
abbrev pub IsPlaceWith : List Declaration → List (List Term) → ℕ → Place → Place → Type 0
IsPlaceWith items terms i p q = (sort : Sort) × IsPlaceSort items p sort × ((es : List Term) → slice_get terms i ≡ Some es → q ≡ record p { marking = None; hl_marking = option_map label_of (sum_term es) })

-- so many lists, with no term in any
pub record AreNone (count : ℕ) (terms : List (List Term)) : Type 0 where
  pub size : length terms ≡ count
  pub none : (i : ℕ) (es : List Term) → slice_get terms i ≡ Some es → es ≡ []

-- the second is the first place with the number of tokens that are on it
abbrev pub HasNumberOn : List (Token × ℕ) → ℕ → Place → Place → Type 0
HasNumberOn m i p q = q ≡ record p { marking = number_label (count_of token_cmp m (token i values.Dot)); hl_marking = None }
