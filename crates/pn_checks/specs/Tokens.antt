-- How the tokens of one place come to a marking (ISO/IEC 15909-1, markings).
use Rattle.std.specs.Prelude.{◌≡◌, ◌≤◌, ◌+◌, ℕ, List, [], ◌∷◌, Option, None, Some, IfSome}
use Rattle.pn_bag.specs.Counts.{count_of}
use Rattle.pn_checks.specs.Initial.{token}
use Rattle.pn_checks.specs.NoValue.{AreOfSort}
use Rattle.pn_eval.specs.Outcomes.{multiset_of}
use Rattle.pn_net.specs.Orders.{token_cmp}
use Rattle.pn_net.specs.declared.token.Token.{Token}
use Rattle.pn_operations.specs.declared.outcome.Outcome.{Outcome}
use Rattle.pn_syntax.specs.declared.declaration.Declaration.{Declaration}
use Rattle.pn_values.specs.Order.{value_cmp}
use Rattle.pn_values.specs.declared.sort.Sort.{Sort}
use Rattle.pn_values.specs.declared.value.Value.{Value}
use Rattle.pn_values.specs.declared.value.Value.TheVariants as values

-- nothing stands on the place of this number
abbrev pub IsEmptyAt : ℕ → List (Token × ℕ) → Type 0
IsEmptyAt i m = (v : Value) → count_of token_cmp m (token i v) ≡ 0

-- nor on any place from this number on
abbrev pub AreEmptyFrom : ℕ → List (Token × ℕ) → Type 0
AreEmptyFrom i m = (j : ℕ) → i ≤ j → IsEmptyAt j m

-- these values come to the place of this number
abbrev pub Gets : ℕ → List (Value × ℕ) → List (Token × ℕ) → List (Token × ℕ) → Type 0
Gets i bag old new = (v : Value) → count_of token_cmp new (token i v) ≡ count_of token_cmp old (token i v) + count_of value_cmp bag v

-- these values come to the place of this number, but for the rest of them
abbrev pub StillGets : ℕ → List (Value × ℕ) → List (Value × ℕ) → List (Token × ℕ) → List (Token × ℕ) → Type 0
StillGets i bag rest old new = (v : Value) → count_of token_cmp new (token i v) + count_of value_cmp rest v ≡ count_of token_cmp old (token i v) + count_of value_cmp bag v

-- the other places keep what stands on them
abbrev pub KeepsOthers : ℕ → List (Token × ℕ) → List (Token × ℕ) → Type 0
KeepsOthers i old new = (j : ℕ) (v : Value) → (j ≡ i → ⊥) → count_of token_cmp new (token j v) ≡ count_of token_cmp old (token j v)

-- so many of the one value, where there is a number
abbrev pub number_tokens : Option ℕ → List (Value × ℕ)
number_tokens None = []
number_tokens (Some n) = (values.Dot, n) ∷ []

-- the outcome stands for a multiset of values of this sort
abbrev pub HasTokensBy : List Declaration → Sort → Option (List (Value × ℕ)) → Type 0
HasTokensBy items sort None = ⊥
HasTokensBy items sort (Some bag) = AreOfSort items sort bag

abbrev pub HasTokens : List Declaration → Sort → Outcome → Type 0
HasTokens items sort o = HasTokensBy items sort (multiset_of o)
