-- Numbers that are read digit by digit.
use Rattle.std.proofs.Common.{◌≡◌, ℕ, suc, ◌+◌, ◌*◌, ◌-◌, ◌<◌, ◌≤◌, Bool, true, false, cond, nat_le, List, [], ◌∷◌, take, drop, length, get_or, None, Some, refl, sym, ap, subst, ◌∙◌, arith}
use Rattle.std.specs.List.{prefix_len, list_all}
use Rattle.std.specs.Char.{is_ascii_digit, digit_value}
use Rattle.std.specs.Str.Parse.{digits_value, digits_value_after}
use Rattle.std.proofs.lemmas.List.{take_rest}
use Rattle.std.proofs.Math.Bool.{and-true}
use Rattle.std.proofs.Math.Seq.{drop-cons}
use Rattle.std.proofs.lemmas.Str.{digit_value_digit}
use Rattle.std.proofs.lemmas.Str.Parse.{tells_all_ascii_digits}
use Rattle.pn_facts.proofs.Lists.{front_passes}
use Rattle.pn_facts.proofs.Truths.{and_left}
use Rattle.pn_markup.specs.Bytes.{is_space}
use Rattle.pn_shape.specs.Numbers.{digits_up_to, behind_space}

no_less : (n : ℕ) (ds : List ℕ) → n ≤ digits_value_after 10 n ds
no_less n [] = omega arith
no_less n (d ∷ ds) = omega (arith, no_less (n * 10 + digit_value d) ds)

above_none : (most n : ℕ) → most < n → None ≡ cond (nat_le n most) (Some n) None
above_none most n lt = step (nat_le n most) refl
  where
    step : (b : Bool) → nat_le n most ≡ b → None ≡ cond b (Some n) None
    step true h = absurd (let no : nat_le n most ≡ true = h in grind arith)
    step false h = refl

digit_is : (d : ℕ) → is_ascii_digit d ≡ true → digit_value d ≡ d - 48
digit_is d h = omega (arith, digit_value_digit d (tells_all_ascii_digits.parts d [] (and-true (is_ascii_digit d) ∙ h)).0)

-- once the number is too great, it stays so
pub too_great : (most n i : ℕ) (bs : List ℕ) → i < length bs → list_all is_ascii_digit (drop i bs) ≡ true → most < n * 10 + (get_or bs i 0 - 48)
    → digits_value_after 10 n (drop i bs) ≡ digits_value 10 bs → None ≡ digits_up_to most bs
too_great most n i bs lt digits above is =
    let d = get_or bs i 0 in
    let more = drop (suc i) bs in
    let next = drop-cons bs i 0 lt in
    let one = digit_is d (and_left (is_ascii_digit d) (list_all is_ascii_digit more) (ap (list_all is_ascii_digit) (sym next) ∙ digits)) in
    above_none most (digits_value 10 bs)
    (subst (λ v. most < v) (ap (digits_value_after 10 n) (sym next) ∙ is) (omega (arith, one, no_less (n * 10 + digit_value d) more)))

pub behind_is : (bs : List ℕ) (many : ℕ) → many ≡ prefix_len is_space bs → take (length bs - many) (drop many bs) ≡ behind_space bs
behind_is bs many is = take_rest bs many ∙ ap (λ n. drop n bs) is

pub are_digits : (many : ℕ) (bs : List ℕ) → many ≡ prefix_len is_ascii_digit bs → list_all is_ascii_digit (take many bs) ≡ true
are_digits many bs is = ap (λ n. list_all is_ascii_digit (take n bs)) is ∙ front_passes is_ascii_digit bs
