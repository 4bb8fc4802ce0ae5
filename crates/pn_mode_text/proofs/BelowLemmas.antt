-- What holds of all numbers below one.
use Rattle.std.proofs.Common.{◌≡◌, ℕ, ◌+◌, ◌<◌, Bool, true, false, ltb, refl, subst, arith}
use Rattle.std.proofs.lemmas.Bool.Decides.{nat_tests}

pub all_below : (P : ℕ → Type 0) (n : ℕ) → ((t : ℕ) → t < n → P t) → P n → (t : ℕ) → t < n + 1 → P t
all_below P n all here t lt = by (ltb t n) refl
  where
    by : (c : Bool) → ltb t n ≡ c → P t
    by true e = all t (grind (arith, nat_tests))
    by false e = let same : n ≡ t = grind (arith, nat_tests) in subst P same here
