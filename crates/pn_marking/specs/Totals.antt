-- What the arcs of a transition take and put under an assignment of values to its variables (ISO/IEC 15909-1, high-level nets).
use Rattle.std.specs.Prelude.{◌≡◌, ◌==◌, ◌&&◌, ◌+◌, ◌<◌, ◌≤◌, ℕ, Bool, true, false, not, List, [], ◌∷◌, Option, None, Some, if◌then◌else◌}
use Rattle.std.specs.List.{AllZip, filter}
use Rattle.std.specs.Option.{unwrap_or}
use Rattle.pn_bag.specs.Bag.{IsBag}
use Rattle.pn_bag.specs.Counts.{Every, count_of}
use Rattle.pn_bag.specs.declared.TheConstants.{MAX_COUNT}
use Rattle.pn_carriers.specs.Members.{IsMember}
use Rattle.pn_eval.specs.Outcomes.{multiset_of}
use Rattle.pn_eval.specs.Values.{HasValue}
use Rattle.pn_names.specs.Names.{widths_of}
use Rattle.pn_net.specs.Labels.{said}
use Rattle.pn_net.specs.Orders.{token_cmp}
use Rattle.pn_net.specs.Typed.{IsSortOfPlace, is_at}
use Rattle.pn_net.specs.declared.flat.Flat.{Flat}
use Rattle.pn_net.specs.declared.flat.FlatArc.{FlatArc}
use Rattle.pn_net.specs.declared.token.Token.{Token}
use Rattle.pn_operations.specs.declared.outcome.Outcome.{Outcome}
use Rattle.pn_syntax.specs.declared.declaration.Declaration.{Declaration}
use Rattle.pn_syntax.specs.declared.term.Term.{Term}
use Rattle.pn_values.specs.Order.{value_cmp}
use Rattle.pn_values.specs.declared.sort.Sort.{Sort}
use Rattle.pn_values.specs.declared.value.Value.{Value}
use Rattle.pn_values.specs.declared.value.Value.TheVariants as values

-- a term stands for this multiset, where the variables have these values; a value stands for itself once
abbrev pub StandsFor : List Declaration → List ℕ → List Value → Term → List (Value × ℕ) → Type 0
StandsFor items vars given e bag = (o : Outcome) × HasValue items vars given e o × (multiset_of o ≡ Some bag)

-- what an arc says: its inscription, or so many of the one value as its weight is; a missing weight is 1
abbrev pub SaysBag : List Declaration → List ℕ → List Value → Option Term → Option ℕ → List (Value × ℕ) → Type 0
SaysBag items vars given None weight bag = bag ≡ (values.Dot, unwrap_or weight 1) ∷ []
SaysBag items vars given (Some e) weight bag = StandsFor items vars given e bag

abbrev pub IsArcBag : List Declaration → List ℕ → List Value → FlatArc → List (Value × ℕ) → Type 0
IsArcBag items vars given a bag = SaysBag items vars given (said a.arc.inscription) (said a.arc.weight) bag

-- an arc leads in this direction: into its place, or out of it
abbrev pub leads : Bool → FlatArc → Bool
leads true a = a.into_place
leads false a = not a.into_place

-- the arcs between a transition and its places in one direction
abbrev pub arcs_at : Flat → ℕ → Bool → List FlatArc
arcs_at f t into = filter (λ a. is_at t a && leads into a) f.arcs

-- how often the tokens of one place have a token, where these values stand on it
abbrev pub count_at : ℕ → List (Value × ℕ) → Token → ℕ
count_at i bag k = if i == k.place then count_of value_cmp bag k.value else 0

-- how often what these arcs say has a token in all
abbrev pub sum_at : List FlatArc → List (List (Value × ℕ)) → Token → ℕ
sum_at [] bags k = 0
sum_at (a ∷ arcs) [] k = 0
sum_at (a ∷ arcs) (bag ∷ bags) k = count_at a.place bag k + sum_at arcs bags k

-- a value is of the sort of the place of this number
abbrev pub IsValueOn : Flat → ℕ → Value → Type 0
IsValueOn f i v = (sort : Sort) × IsSortOfPlace f i sort × IsMember (widths_of f.declarations) v sort

-- a token: its value is of its place's sort
abbrev pub IsTokenOf : Flat → Token → Type 0
IsTokenOf f k = IsValueOn f k.place k.value

-- each is a token
abbrev pub AreTokensOf : Flat → List (Token × ℕ) → Type 0
AreTokensOf f m = Every (λ entry. IsTokenOf f entry.0) m

-- all totals of these arcs, which lead in one direction, as one multiset of tokens: each total is the sum of what the arcs say between the transition and one
-- place. Where an arc says nothing, a count is too large, or a value is not of its place's sort, there is none
pub record IsMovedBy (f : Flat) (vars : List ℕ) (given : List Value) (arcs : List FlatArc) (m : List (Token × ℕ)) : Type 0 where
  pub bag : IsBag token_cmp m
  pub bags : List (List (Value × ℕ))
  pub say : AllZip (IsArcBag f.declarations vars given) arcs bags
  pub sums : (k : Token) → count_of token_cmp m k ≡ sum_at arcs bags k
  pub tokens : AreTokensOf f m

-- all totals of a transition in one direction
abbrev pub IsMoved : Flat → ℕ → Bool → List ℕ → List Value → List (Token × ℕ) → Type 0
IsMoved f t into vars given m = IsMovedBy f vars given (arcs_at f t into) m

-- the totals of these arcs have values
pub record HasTotals (f : Flat) (vars : List ℕ) (given : List Value) (arcs : List FlatArc) : Type 0 where
  pub bags : List (List (Value × ℕ))
  pub say : AllZip (IsArcBag f.declarations vars given) arcs bags
  pub fits : (k : Token) → sum_at arcs bags k ≤ MAX_COUNT
  pub tokens : (k : Token) → 0 < sum_at arcs bags k → IsTokenOf f k
