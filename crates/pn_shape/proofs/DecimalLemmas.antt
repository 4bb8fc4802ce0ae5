-- Numbers that are written in decimal are read as themselves.
use Rattle.std.proofs.Common.{◌≡◌, ℕ, pos, suc, ◌+◌, ◌-◌, ◌^◌, ◌<◌, ◌≤◌, true, false, cond, ◌&&◌, ◌||◌, ◌==◌, nat_le, nat_lt, List, [], ◌∷◌, take, drop, length, None, Some, refl, ap, ◌∙◌, arith, decimal}
use Rattle.std.specs.Prelude.{neg_ℤ}
use Rattle.std.specs.List.{prefix_len}
use Rattle.std.specs.Option.{option_map}
use Rattle.std.specs.Char.{is_ascii_digit}
use Rattle.std.specs.Str.{all_ascii_digits}
use Rattle.std.specs.Str.Parse.{digits_value}
use Rattle.std.proofs.Math.Seq.{take-length, drop-length}
use Rattle.std.proofs.lemmas.Bool.Decides.{nat_tests}
use Rattle.std.proofs.lemmas.Fmt.{decimal_nonempty, digits_decimal, digits_value-decimal}
use Rattle.std.proofs.lemmas.Str.Parse.{IsNumeralModel, numerals_by_value, tells_all_ascii_digits}
use Rattle.pn_facts.proofs.Truths.{and_left, and_right}
use Rattle.pn_markup.specs.Bytes.{is_space}
use Rattle.pn_shape.specs.Numbers.{is_blank, behind_space, digits_up_to, front_number, numeral_in, count_in, signed_in, number_in}

as_digits : IsNumeralModel (λ ds. all_ascii_digits ds ≡ true) (digits_value 10)
as_digits = numerals_by_value (λ ds. all_ascii_digits ds ≡ true) tells_all_ascii_digits

all_in_front : (ds : List ℕ) → all_ascii_digits ds ≡ true → prefix_len is_ascii_digit ds ≡ length ds
all_in_front [] h = refl
all_in_front (d ∷ ds) h =
    let more = all_in_front ds (and_right (is_ascii_digit d) (all_ascii_digits ds) h) in
    ap (λ b. cond b (1 + prefix_len is_ascii_digit ds) 0) (and_left (is_ascii_digit d) (all_ascii_digits ds) h) ∙ omega (arith, more)

-- digits alone are the number that they write

numeral_of : (most : ℕ) (ds : List ℕ) → 0 < length ds → all_ascii_digits ds ≡ true → digits_value 10 ds ≤ most → numeral_in most ds ≡ Some (digits_value 10 ds)
numeral_of most ds some digits le =
    let v = digits_value 10 ds in
    let there : nat_lt 0 (length ds) ≡ true = grind (arith, nat_tests) in
    let within : nat_le v most ≡ true = grind (arith, nat_tests) in
    ap (λ n. front_number most n ds) (all_in_front ds digits)
    ∙ (ap (λ b. cond (b && is_blank (drop (length ds) ds)) (digits_up_to most (take (length ds) ds)) None) there
    ∙ (ap (λ l. cond (is_blank l) (digits_up_to most (take (length ds) ds)) None) (drop-length ds)
    ∙ (ap (digits_up_to most) (take-length ds) ∙ ap (λ b. cond b (Some v) None) within)))

-- digits begin with no white space and with no minus

no_space : (d : ℕ) → is_ascii_digit d ≡ true → is_space d ≡ false
no_space d h =
    let range = (tells_all_ascii_digits.parts d [] (ap (λ b. b && true) h)).0 in
    let a : (d == 32) ≡ false = grind (arith, nat_tests, range) in
    let b : (d == 9) ≡ false = grind (arith, nat_tests, range) in
    let c : (d == 10) ≡ false = grind (arith, nat_tests, range) in
    let e : (d == 13) ≡ false = grind (arith, nat_tests, range) in
    ap (λ x. x || ((d == 9) || ((d == 10) || (d == 13)))) a ∙ (ap (λ x. x || ((d == 10) || (d == 13))) b ∙ (ap (λ x. x || (d == 13)) c ∙ e))

no_minus : (d : ℕ) → is_ascii_digit d ≡ true → (d == 45) ≡ false
no_minus d h = let range = (tells_all_ascii_digits.parts d [] (ap (λ b. b && true) h)).0 in grind (arith, nat_tests, range)

unspaced : (ds : List ℕ) → all_ascii_digits ds ≡ true → behind_space ds ≡ ds
unspaced [] h = refl
unspaced (d ∷ ds) h = ap (λ b. drop (cond b (1 + prefix_len is_space ds) 0) (d ∷ ds)) (no_space d (and_left (is_ascii_digit d) (all_ascii_digits ds) h))

unsigned : (ds : List ℕ) → 0 < length ds → all_ascii_digits ds ≡ true → signed_in ds ≡ option_map pos (numeral_in (2 ^ 63 - 1) ds)
unsigned [] some h = absurd (omega arith)
unsigned (d ∷ ds) some h =
    ap (λ b. cond b (option_map (λ n. neg_ℤ (pos n)) (numeral_in (2 ^ 63) ds)) (option_map pos (numeral_in (2 ^ 63 - 1) (d ∷ ds)))) (no_minus d (and_left (is_ascii_digit d) (all_ascii_digits ds) h))

numeral_decimal : (most n : ℕ) → n ≤ most → n < 2 ^ 64 → numeral_in most (decimal n) ≡ Some n
numeral_decimal most n le small =
    let v = digits_value-decimal as_digits n small in
    numeral_of most (decimal n) (decimal_nonempty n small) (digits_decimal as_digits n small) (omega (arith, v)) ∙ ap Some v

-- a number of tokens is read from its decimal
pub count_decimal : (n : ℕ) → n < 2 ^ 63 → count_in (decimal n) ≡ Some n
count_decimal n lt =
    let small : n < 2 ^ 64 = omega arith in
    ap (numeral_in (2 ^ 63 - 1)) (unspaced (decimal n) (digits_decimal as_digits n small)) ∙ numeral_decimal (2 ^ 63 - 1) n (omega arith) small

-- and a whole number, from nought on or below
pub natural_decimal : (n : ℕ) → n < 2 ^ 63 → number_in (decimal n) ≡ Some (pos n)
natural_decimal n lt =
    let small : n < 2 ^ 64 = omega arith in
    let digits = digits_decimal as_digits n small in
    ap signed_in (unspaced (decimal n) digits)
    ∙ (unsigned (decimal n) (decimal_nonempty n small) digits ∙ ap (option_map pos) (numeral_decimal (2 ^ 63 - 1) n (omega arith) small))

pub negative_decimal : (n : ℕ) → n < 2 ^ 63 → number_in (45 ∷ decimal (suc n)) ≡ Some (neg_ℤ (pos (suc n)))
negative_decimal n lt = ap (option_map (λ m. neg_ℤ (pos m))) (numeral_decimal (2 ^ 63) (suc n) (omega arith) (omega arith))
