-- The initial marking of a flat net (ISO/IEC 15909-1, high-level nets).
use Rattle.std.specs.Prelude.{◌≡◌, ℕ, List, [], ◌∷◌, Option, None, Some}
use Rattle.std.specs.List.{slice_get}
use Rattle.pn_bag.specs.Bag.{IsBag}
use Rattle.pn_bag.specs.Counts.{count_of}
use Rattle.pn_checks.specs.NoValue.{SaysMultiset}
use Rattle.pn_net.specs.Labels.{said}
use Rattle.pn_net.specs.Orders.{token_cmp}
use Rattle.pn_net.specs.declared.flat.Flat.{Flat}
use Rattle.pn_net.specs.declared.token.Token.{Token}
use Rattle.pn_objects.specs.declared.object.Place.{Place}
use Rattle.pn_syntax.specs.declared.term.Term.{Term}
use Rattle.pn_values.specs.Order.{value_cmp}
use Rattle.pn_values.specs.declared.value.Value.{Value}
use Rattle.pn_values.specs.declared.value.Value.TheVariants as values

-- a value on the place of this number
abbrev pub token : ℕ → Value → Token
token place value = record { place = place; value = value }

-- a multiset of values is what a place has at first: what its term says, or so many of the one value as its number says; nothing where it has neither
abbrev pub IsFirstBy : (Term → List (Value × ℕ) → Type 0) → Option Term → Option ℕ → List (Value × ℕ) → Type 0
IsFirstBy SaysMultiset None None bag = bag ≡ []
IsFirstBy SaysMultiset None (Some n) bag = bag ≡ (values.Dot, n) ∷ []
IsFirstBy SaysMultiset (Some e) number bag = SaysMultiset e bag

abbrev pub IsFirstOf : (Term → List (Value × ℕ) → Type 0) → Place → List (Value × ℕ) → Type 0
IsFirstOf SaysMultiset p bag = IsFirstBy SaysMultiset (said p.hl_marking) (said p.marking) bag

-- on the place of this number stand these values and no others
abbrev pub StandOn : List (Token × ℕ) → ℕ → List (Value × ℕ) → Type 0
StandOn m i bag = (v : Value) → count_of token_cmp m (token i v) ≡ count_of value_cmp bag v

-- on the place of this number stands what it has at first; where there is no place stands nothing
abbrev pub IsMarked : (Term → List (Value × ℕ) → Type 0) → List (Token × ℕ) → ℕ → Option Place → Type 0
IsMarked SaysMultiset m i None = StandOn m i []
IsMarked SaysMultiset m i (Some p) = (bag : List (Value × ℕ)) × IsFirstOf SaysMultiset p bag × StandOn m i bag

-- on each place stands what it has at first, where terms say these multisets
abbrev pub AreMarked : (Term → List (Value × ℕ) → Type 0) → List Place → List (Token × ℕ) → Type 0
AreMarked SaysMultiset places m = (i : ℕ) → IsMarked SaysMultiset m i (slice_get places i)

-- the multiset is the initial marking of the flat net
pub record IsInitial (f : Flat) (m : List (Token × ℕ)) : Type 0 where
  pub bag : IsBag token_cmp m
  pub marked : AreMarked (SaysMultiset f.declarations) f.places m
