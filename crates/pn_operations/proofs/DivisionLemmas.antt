-- The sign of a rest.
use Rattle.std.proofs.Common.{◌≡◌, ℕ, zero, suc, ◌%◌, ℤ, pos, negsuc, neg_ℤ, int_le, true, refl, arith}
use Rattle.std.proofs.lemmas.Int.{ints}
use Rattle.std.specs.Int.RustNames.{int_rem, unsigned_abs}

neg_below : (n : ℕ) → int_le (neg_ℤ (pos n)) (pos 0) ≡ true
neg_below zero = refl
neg_below (suc n) = refl

pos_above : (n : ℕ) → int_le (pos 0) (pos n) ≡ true
pos_above n = grind (arith, ints)

not_below : (a : ℕ) → int_le (pos (suc a)) (pos 0) ≡ true → ⊥
not_below a h = grind (arith, ints)

zero_rest : (n : ℕ) → int_le (pos (0 % n)) (pos 0) ≡ true
zero_rest n = grind (arith, ints)

pub rest_above : (one other : ℤ) → int_le (pos 0) one ≡ true → int_le (pos 0) (int_rem one other) ≡ true
rest_above (pos a) other h = pos_above (a % unsigned_abs other)
rest_above (negsuc a) other h = absurd cc

pub rest_below : (one other : ℤ) → int_le one (pos 0) ≡ true → int_le (int_rem one other) (pos 0) ≡ true
rest_below (pos zero) other h = zero_rest (unsigned_abs other)
rest_below (pos (suc a)) other h = absurd (not_below a h)
rest_below (negsuc a) other h = neg_below (suc a % unsigned_abs other)
