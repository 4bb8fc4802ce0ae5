-- What becomes of each token in a step, as a list of flows in the order of their tokens.
use Rattle.std.specs.Prelude.{◌≡◌, ◌⊎◌, ℕ, ◌+◌, ◌-◌, ◌*◌, ◌^◌, ◌<◌, ◌≤◌, min, List, [], ◌∷◌, ◌++◌, length, map}
use Rattle.std.specs.declared.cmp.Ordering.TheVariants.{Less}
use Rattle.pn_bag.specs.Counts.{Every, count_in, count_of}
use Rattle.pn_bag.specs.declared.TheConstants.{MAX_COUNT}
use Rattle.pn_net.specs.Orders.{token_cmp}
use Rattle.pn_net.specs.declared.token.Token.{Token}
use Rattle.pn_marking.specs.declared.flows.Flow.{Flow}
use Rattle.pn_marking.specs.declared.flows.Side.{Side}
use Rattle.pn_marking.specs.declared.flows.Side.TheVariants.{Has, Taken, Put}

-- a count that stays at the greatest number of 64 bits
abbrev pub saturated : ℕ → ℕ
saturated n = min n (2 ^ 64 - 1)

-- a count that is told as one more than the greatest of a multiset where it passes that
abbrev pub capped : ℕ → ℕ
capped n = min n (MAX_COUNT + 1)

abbrev pub count_on : Side → Flow → ℕ
count_on Has flow = flow.has
count_on Taken flow = flow.taken
count_on Put flow = flow.put

-- the flow of a token that is on one side alone
abbrev pub flow_of : Side → Token → ℕ → Flow
flow_of Has token n = record { token = token; has = n; taken = 0; put = 0 }
flow_of Taken token n = record { token = token; has = 0; taken = n; put = 0 }
flow_of Put token n = record { token = token; has = 0; taken = 0; put = n }

-- the tokens of a multiset on one side, so many times
abbrev pub AreTokens : Side → ℕ → List (Token × ℕ) → List Flow → Type 0
AreTokens side times tokens flows = flows ≡ map (λ entry. flow_of side entry.0 (saturated (times * entry.1))) tokens

-- two flows of one token, as one
abbrev pub join_of : Flow → Flow → Flow
join_of left right = record {
  token = left.token;
  has = saturated (left.has + right.has);
  taken = saturated (left.taken + right.taken);
  put = saturated (left.put + right.put);
}

-- each token is below all later ones
abbrev pub AreInOrder : List Flow → Type 0
AreInOrder [] = Unit {0}
AreInOrder (flow ∷ rest) = Every (λ later. token_cmp flow.token later.token ≡ Less) rest × AreInOrder rest

-- how many of a token are on a side in all
abbrev pub amount : Side → List Flow → Token → ℕ
amount side [] k = 0
amount side (flow ∷ rest) k = count_in token_cmp (flow.token, count_on side flow) k + amount side rest k

-- one list for two: on each side of each token the sum of their counts, up to the cap
pub record AreMerged (left right all : List Flow) : Type 0 where
  pub order : AreInOrder all
  pub counts : (side : Side) (k : Token) → capped (amount side all k) ≡ capped (amount side left k + amount side right k)

-- a last flow's token is above all of the other list
abbrev pub IsLastAbove : List Flow → List Flow → Type 0
IsLastAbove flows others = (0 < length flows) × ((front : List Flow) (last : Flow) → flows ≡ front ++ last ∷ [] → Every (λ f. token_cmp f.token last.token ≡ Less) others)

-- the two last flows are of one token
abbrev pub AreLastsOfOne : List Flow → List Flow → Type 0
AreLastsOfOne left right = (0 < length left) × (0 < length right) × ((front before : List Flow) (one two : Flow) → left ≡ front ++ one ∷ [] → right ≡ before ++ two ∷ [] → one.token ≡ two.token)

-- a list that loses its last flow, which is of this one's token; or loses nothing, and all is below
abbrev pub LosesLast : List Flow → List Flow → Flow → Type 0
LosesLast old new flow = ((new ≡ old) × Every (λ f. token_cmp f.token flow.token ≡ Less) old) ⊎ ((last : Flow) × (last.token ≡ flow.token) × (old ≡ new ++ last ∷ []))

-- the flow of the greatest token of two lists, and what is left of them
pub record IsGreatestOf (left right new_left new_right : List Flow) (flow : Flow) : Type 0 where
  pub of_left : LosesLast left new_left flow
  pub of_right : LosesLast right new_right flow
  pub counts : (side : Side) (k : Token) → capped (amount side left k + amount side right k) ≡ capped (amount side new_left k + amount side new_right k + count_in token_cmp (flow.token, count_on side flow) k)

-- as many are there as are taken
abbrev pub IsEnough : Flow → Type 0
IsEnough flow = flow.taken ≤ flow.has

-- no more are left than a multiset may have
abbrev pub IsSmallEnough : Flow → Type 0
IsSmallEnough flow = flow.has + flow.put ≤ MAX_COUNT + flow.taken

-- the flow has only flows with P before it
abbrev pub IsFirstBut : (Flow → Type 0) → List Flow → Flow → Type 0
IsFirstBut P flows flow = (front rest : List Flow) × (flows ≡ front ++ flow ∷ rest) × Every P front

-- this is left of each token
abbrev pub AreLeft : List Flow → List (Token × ℕ) → Type 0
AreLeft flows m = (k : Token) → count_of token_cmp m k + amount Taken flows k ≡ amount Has flows k + amount Put flows k

-- the first flow of which too few are there
abbrev pub IsShortIn : List Flow → Token → (need has : ℕ) → Type 0
IsShortIn flows token need has = (flow : Flow) × IsFirstBut IsEnough flows flow × (flow.has < flow.taken) × (token ≡ flow.token) × (need ≡ capped flow.taken) × (has ≡ flow.has)

-- the first flow of which too many would be left
abbrev pub IsLargeIn : List Flow → Token → Type 0
IsLargeIn flows token = (flow : Flow) × IsFirstBut IsSmallEnough flows flow × (MAX_COUNT + flow.taken < flow.has + flow.put) × (token ≡ flow.token)
