-- What the modes of a multiset take and put in all, as flows.
use Rattle.std.specs.Prelude.{◌≡◌, ℕ, ◌≤◌, List}
use Rattle.pn_bag.specs.Counts.{count_of}
use Rattle.pn_bag.specs.declared.TheConstants.{MAX_COUNT}
use Rattle.pn_net.specs.Orders.{token_cmp}
use Rattle.pn_net.specs.declared.flat.Flat.{Flat}
use Rattle.pn_net.specs.declared.mode.Mode.{Mode}
use Rattle.pn_net.specs.declared.token.Token.{Token}
use Rattle.pn_marking.specs.declared.flows.Flow.{Flow}
use Rattle.pn_marking.specs.declared.flows.Side.{Side}
use Rattle.pn_marking.specs.declared.flows.Side.TheVariants.{Has, Taken, Put}
use Rattle.pn_marking.specs.Flows.{AreInOrder, AreTokens, amount, capped}
use Rattle.pn_marking.specs.Modes.{IsPost, IsPre}
use Rattle.pn_marking.specs.Steps.{AreTaken, ArePut, sum_of}

-- how many of a token are on a side: what the modes take and put
abbrev pub moved : Side → List (Mode × ℕ) → (takes puts : List (List (Token × ℕ))) → Token → ℕ
moved Has x takes puts k = 0
moved Taken x takes puts k = sum_of x takes k
moved Put x takes puts k = sum_of x puts k

-- what a mode takes, so many times
abbrev pub AreTakenBy : Flat → Mode → ℕ → List Flow → Type 0
AreTakenBy f mode count flows = AreInOrder flows × ((m : List (Token × ℕ)) × IsPre f mode m × AreTokens Taken count m flows)

-- what a mode puts, so many times
abbrev pub ArePutBy : Flat → Mode → ℕ → List Flow → Type 0
ArePutBy f mode count flows = AreInOrder flows × ((m : List (Token × ℕ)) × IsPost f mode m × AreTokens Put count m flows)

-- what the modes take and put in all, as flows
pub record AreMovesBy (f : Flat) (x : List (Mode × ℕ)) (takes puts : List (List (Token × ℕ))) (flows : List Flow) : Type 0 where
  pub takes_are : AreTaken f x takes
  pub puts_are : ArePut f x puts
  pub order : AreInOrder flows
  pub counts : (side : Side) (k : Token) → capped (amount side flows k) ≡ capped (moved side x takes puts k)

abbrev pub AreMoves : Flat → List (Mode × ℕ) → List Flow → Type 0
AreMoves f x flows = (takes puts : List (List (Token × ℕ))) × AreMovesBy f x takes puts flows

-- the flows of a step: what the marking has of each token, too
pub record AreStepFlowsBy (f : Flat) (m : List (Token × ℕ)) (x : List (Mode × ℕ)) (takes puts : List (List (Token × ℕ))) (flows : List Flow) : Type 0 where
  pub takes_are : AreTaken f x takes
  pub puts_are : ArePut f x puts
  pub order : AreInOrder flows
  pub most : (k : Token) → count_of token_cmp m k ≤ MAX_COUNT
  pub has : (k : Token) → amount Has flows k ≡ count_of token_cmp m k
  pub taken : (k : Token) → capped (amount Taken flows k) ≡ capped (sum_of x takes k)
  pub put : (k : Token) → capped (amount Put flows k) ≡ capped (sum_of x puts k)

abbrev pub AreStepFlows : Flat → List (Token × ℕ) → List (Mode × ℕ) → List Flow → Type 0
AreStepFlows f m x flows = (takes puts : List (List (Token × ℕ))) × AreStepFlowsBy f m x takes puts flows
