-- The least token for which a multiset of modes does not fire (ISO/IEC 15909-1, high-level nets).
use Rattle.std.specs.Prelude.{◌≡◌, ℕ, ◌+◌, ◌<◌, ◌≤◌, List}
use Rattle.std.specs.declared.cmp.Ordering.TheVariants.{Less}
use Rattle.pn_bag.specs.Counts.{count_of}
use Rattle.pn_net.specs.Orders.{token_cmp}
use Rattle.pn_net.specs.declared.flat.Flat.{Flat}
use Rattle.pn_net.specs.declared.mode.Mode.{Mode}
use Rattle.pn_net.specs.declared.token.Token.{Token}
use Rattle.pn_bag.specs.declared.TheConstants.{MAX_COUNT}
use Rattle.pn_marking.specs.Flows.{capped}
use Rattle.pn_marking.specs.Steps.{ArePut, AreTaken, IsEnabledBy, sum_of}

-- the modes together take the token more often than it is there; `need` is how often they take it, capped, and `has` how often it is there
pub record IsLeastShortBy (f : Flat) (m : List (Token × ℕ)) (x : List (Mode × ℕ)) (takes : List (List (Token × ℕ))) (token : Token) (need has : ℕ) : Type 0 where
  pub takes_are : AreTaken f x takes
  pub need_is : need ≡ capped (sum_of x takes token)
  pub has_is : has ≡ count_of token_cmp m token
  pub fewer : count_of token_cmp m token < sum_of x takes token
  pub least : (k : Token) → token_cmp k token ≡ Less → sum_of x takes k ≤ count_of token_cmp m k

abbrev pub IsLeastShort : Flat → List (Token × ℕ) → List (Mode × ℕ) → Token → (need has : ℕ) → Type 0
IsLeastShort f m x token need has = (takes : List (List (Token × ℕ))) × IsLeastShortBy f m x takes token need has

-- the modes are enabled, and the token's count in the marking less what they take, joined with what they put, passes the greatest count
pub record IsLeastLargeBy (f : Flat) (m : List (Token × ℕ)) (x : List (Mode × ℕ)) (takes puts : List (List (Token × ℕ))) (token : Token) : Type 0 where
  pub enabled : IsEnabledBy f m x takes
  pub puts_are : ArePut f x puts
  pub passes : MAX_COUNT + sum_of x takes token < count_of token_cmp m token + sum_of x puts token
  pub least : (k : Token) → token_cmp k token ≡ Less → count_of token_cmp m k + sum_of x puts k ≤ MAX_COUNT + sum_of x takes k

abbrev pub IsLeastLarge : Flat → List (Token × ℕ) → List (Mode × ℕ) → Token → Type 0
IsLeastLarge f m x token = (takes puts : List (List (Token × ℕ))) × IsLeastLargeBy f m x takes puts token
