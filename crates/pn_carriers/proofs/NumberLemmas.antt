-- Whole numbers from one to another, and their places.
use Rattle.std.proofs.Common.{◌≡◌, ℕ, suc, ◌<◌, ◌≤◌, nat_le, Bool, true, false, ◌&&◌, cond, ℤ, pos, ◌+ℤ◌, ◌-ℤ◌, nat_abs, int_le, refl, arith}
use Rattle.std.proofs.lemmas.Bool.Decides.{nat_tests}
use Rattle.std.proofs.lemmas.Int.{ints}
use Rattle.pn_carriers.specs.Carriers.{count_between}

at_test : {P : Type 0} (a b : ℕ) (test : Bool) → nat_le a b ≡ test → (a ≤ b → P) → (b < a → P) → P
at_test a b true is below above = below (grind (arith, nat_tests))
at_test a b false is below above = above (grind (arith, nat_tests))

-- a number is at most another or above it
pub by_le : {P : Type 0} (a b : ℕ) → (a ≤ b → P) → (b < a → P) → P
by_le a b below above = at_test a b (nat_le a b) refl below above

within_at : (start end z : ℤ) (test : Bool) → int_le start end ≡ test → (int_le start z && int_le z end) ≡ true → nat_abs (z -ℤ start) < cond test (suc (nat_abs (end -ℤ start))) 0
within_at start end z true is h = grind (arith, ints)
within_at start end z false is h = grind (arith, ints)

-- how far a number lies from the first
pub within : (start end z : ℤ) → (int_le start z && int_le z end) ≡ true → nat_abs (z -ℤ start) < count_between start end
within start end z h = within_at start end z (int_le start end) refl h

pub far : (start end z : ℤ) → (int_le start z && int_le z end) ≡ true → start +ℤ pos (nat_abs (z -ℤ start)) ≡ z
far start end z h = grind (arith, ints)

between_at : (start end : ℤ) (k : ℕ) (test : Bool) → int_le start end ≡ test → k < cond test (suc (nat_abs (end -ℤ start))) 0 → (int_le start (start +ℤ pos k) && int_le (start +ℤ pos k) end) ≡ true
between_at start end k true is h = grind (arith, ints)
between_at start end k false is h = absurd (omega arith)

pub between : (start end : ℤ) (k : ℕ) → k < count_between start end → (int_le start (start +ℤ pos k) && int_le (start +ℤ pos k) end) ≡ true
between start end k h = between_at start end k (int_le start end) refl h

pub same_step : (start : ℤ) (i j : ℕ) → start +ℤ pos i ≡ start +ℤ pos j → i ≡ j
same_step start i j h = omega (arith, ints)
