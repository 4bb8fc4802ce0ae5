-- A number that was read is read again from what is written of it.
use Rattle.std.proofs.Common.{◌≡◌, ℕ, ℤ, pos, zero, suc, ◌≤◌, ◌^◌, ◌-◌, Bool, true, false, cond, ◌&&◌, ◌==◌, nat_le, nat_lt, List, [], ◌∷◌, take, drop, Option, Some, None, refl, subst, arith}
use Rattle.std.specs.Prelude.{neg_ℤ}
use Rattle.std.specs.List.{prefix_len}
use Rattle.std.specs.Option.{option_map}
use Rattle.std.specs.Char.{is_ascii_digit}
use Rattle.std.specs.Fmt.{decimal, signed_decimal}
use Rattle.std.specs.Str.Parse.{digits_value}
use Rattle.std.proofs.lemmas.Bool.Decides.{nat_tests}
use Rattle.pn_shape.proofs.DecimalLemmas.{natural_decimal, negative_decimal}
use Rattle.pn_shape.specs.Numbers.{behind_space, digits_up_to, is_blank, number_in, numeral_in, signed_in}

-- what digits write
not_negative : (n : ℕ) → n ≤ 2 ^ 63 - 1 → number_in (decimal n) ≡ Some (pos n)
not_negative n le = natural_decimal n (omega arith)

not_positive : (n : ℕ) → n ≤ 2 ^ 63 → number_in (signed_decimal (neg_ℤ (pos n))) ≡ Some (neg_ℤ (pos n))
not_positive zero le = not_negative 0 (omega arith)
not_positive (suc n) le = negative_decimal n (omega arith)

up_to_within : (most v n : ℕ) → cond (nat_le v most) (Some v) None ≡ Some n → n ≤ most
up_to_within most v n is = step (nat_le v most) refl is
  where
    step : (b : Bool) → nat_le v most ≡ b → cond b (Some v) None ≡ Some n → n ≤ most
    step true le is = let same : v ≡ n = cc in grind (arith, nat_tests)
    step false le is = absurd cc

pub numeral_within : (most n : ℕ) (bs : List ℕ) → numeral_in most bs ≡ Some n → n ≤ most
numeral_within most n bs is = step (nat_lt 0 many && is_blank (drop many bs)) is
  where
    many : ℕ
    many = prefix_len is_ascii_digit bs

    step : (b : Bool) → cond b (digits_up_to most (take many bs)) None ≡ Some n → n ≤ most
    step true is = up_to_within most (digits_value 10 (take many bs)) n is
    step false is = absurd cc

-- a number that was read is read again from what is written of it
pub number_again : (v : List ℕ) (z : ℤ) → number_in v ≡ Some z → number_in (signed_decimal z) ≡ Some z
number_again v z is = signed (behind_space v) is
  where
    Again : ℤ → Type 0
    Again y = number_in (signed_decimal y) ≡ Some y

    by_sign : (minus : Bool) (b : ℕ) (bs : List ℕ) → cond minus (option_map (λ n. neg_ℤ (pos n)) (numeral_in (2 ^ 63) bs)) (option_map pos (numeral_in (2 ^ 63 - 1) (b ∷ bs))) ≡ Some z → Again z
    by_sign true b bs is = of (numeral_in (2 ^ 63) bs) refl is
      where
        of : (o : Option ℕ) → numeral_in (2 ^ 63) bs ≡ o → option_map (λ n. neg_ℤ (pos n)) o ≡ Some z → Again z
        of None at is = absurd cc
        of (Some n) at is = let same : neg_ℤ (pos n) ≡ z = cc in subst Again same (not_positive n (numeral_within (2 ^ 63) n bs at))
    by_sign false b bs is = of (numeral_in (2 ^ 63 - 1) (b ∷ bs)) refl is
      where
        of : (o : Option ℕ) → numeral_in (2 ^ 63 - 1) (b ∷ bs) ≡ o → option_map pos o ≡ Some z → Again z
        of None at is = absurd cc
        of (Some n) at is = let same : pos n ≡ z = cc in subst Again same (not_negative n (numeral_within (2 ^ 63 - 1) n (b ∷ bs) at))

    signed : (bs : List ℕ) → signed_in bs ≡ Some z → Again z
    signed [] is = absurd cc
    signed (b ∷ bs) is = by_sign (b == 45) b bs is
