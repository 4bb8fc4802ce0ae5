-- When a call may fail: the counts of faults that sources and sinks keep.
use Rattle.std.specs.Prelude.{◌≡◌, ℕ, ◌+◌, ◌-◌, ◌^◌, ◌≤◌, min, OnErr, MatchResult, Result}

-- a number as a 64-bit count keeps it, which stands still at its type's end
abbrev pub capped : ℕ → ℕ
capped n = min n (2 ^ 64 - 1)

-- one more call, fault or byte
abbrev pub one_more : ℕ → ℕ
one_more count = capped (count + 1)

-- a count of faults rose in a call: it is greater now, or it stands at its type's end
abbrev pub Rose : ℕ → ℕ → Type 0
Rose before now = one_more before ≤ now

-- what a call did to a count of faults: it never falls, and the call failed only where it rose
pub record HasCause {T E : Type 0} (before now : ℕ) (result : Result T E) : Type 0 where
  pub later : before ≤ now
  pub failed : OnErr result (Rose before now)

-- a call counted its fault, and no other: the count stays where it answered Ok, and is one more where it failed
abbrev pub CountsFault : {T E : Type 0} → ℕ → ℕ → Result T E → Type 0
CountsFault before now result = MatchResult result (λ _. now ≡ before) (λ _. now ≡ one_more before)
