-- Steps (ISO/IEC 15909-1, high-level nets). No count has a bound here.
use Rattle.std.specs.Prelude.{◌≡◌, ℕ, ◌+◌, ◌*◌, ◌≤◌, List, [], ◌∷◌}
use Rattle.std.specs.List.{AllZip}
use Rattle.pn_bag.specs.Counts.{Every, count_of}
use Rattle.pn_net.specs.Orders.{token_cmp}
use Rattle.pn_net.specs.declared.flat.Flat.{Flat}
use Rattle.pn_net.specs.declared.mode.Mode.{Mode}
use Rattle.pn_net.specs.declared.token.Token.{Token}
use Rattle.pn_marking.specs.Modes.{IsMode, IsPost, IsPre}

-- each is a mode of the net
abbrev pub AreModes : Flat → List (Mode × ℕ) → Type 0
AreModes f x = Every (λ entry. IsMode f entry.0) x

-- how often a token is moved in all, where each mode moves these tokens as often as it stands in the multiset
abbrev pub sum_of : List (Mode × ℕ) → List (List (Token × ℕ)) → Token → ℕ
sum_of [] moves k = 0
sum_of (entry ∷ rest) [] k = 0
sum_of (entry ∷ rest) (m ∷ moves) k = entry.1 * count_of token_cmp m k + sum_of rest moves k

-- the modes take these tokens, one after another
abbrev pub AreTaken : Flat → List (Mode × ℕ) → List (List (Token × ℕ)) → Type 0
AreTaken f x takes = AllZip (λ entry m. IsPre f entry.0 m) x takes

-- the modes put these tokens
abbrev pub ArePut : Flat → List (Mode × ℕ) → List (List (Token × ℕ)) → Type 0
ArePut f x puts = AllZip (λ entry m. IsPost f entry.0 m) x puts

-- a multiset of modes is enabled at a marking that has all that they take together
pub record IsEnabledBy (f : Flat) (m : List (Token × ℕ)) (x : List (Mode × ℕ)) (takes : List (List (Token × ℕ))) : Type 0 where
  pub modes : AreModes f x
  pub takes_are : AreTaken f x takes
  pub enough : (k : Token) → sum_of x takes k ≤ count_of token_cmp m k

abbrev pub IsEnabled : Flat → List (Token × ℕ) → List (Mode × ℕ) → Type 0
IsEnabled f m x = (takes : List (List (Token × ℕ))) × IsEnabledBy f m x takes

-- it leads to the marking less what they take, joined with what they put
pub record IsStepBy (f : Flat) (m : List (Token × ℕ)) (x : List (Mode × ℕ)) (takes puts : List (List (Token × ℕ))) (new : List (Token × ℕ)) : Type 0 where
  pub enabled : IsEnabledBy f m x takes
  pub puts_are : ArePut f x puts
  pub leads : (k : Token) → count_of token_cmp new k + sum_of x takes k ≡ count_of token_cmp m k + sum_of x puts k

abbrev pub IsStep : Flat → List (Token × ℕ) → List (Mode × ℕ) → List (Token × ℕ) → Type 0
IsStep f m x new = (takes puts : List (List (Token × ℕ))) × IsStepBy f m x takes puts new
